-- Each monitor shows only marks of its own kinds at a step, and the numbers of the kinds are in the order of the
-- monitors.
use Rattle.std.proofs.Common.{◌≡◌, ℕ, ◌<◌, ◌≤◌, Bool, true, false, ◌||◌, List, [], ◌∷◌, ◌++◌, refl, sym, subst, arith}
use Rattle.std.proofs.Common.{lit<, lit≤, cond, Option, None, Some}
use Rattle.std.specs.Option.{is_some, option_map, option_map_or, option_to_list}
use Rattle.vme_trace.specs.Changes.{touches_control}
use Rattle.vme_trace.specs.Levels.{Levels, is_idle}
use Rattle.vme_trace.specs.declared.data.Lanes.{Lanes}
use Rattle.vme_trace.specs.declared.step.Change.{Change}
use Rattle.vme_monitor.specs.BothMonitors.{kind_number}
use Rattle.vme_monitor.specs.Ends.{end_among}
use Rattle.vme_monitor.specs.OverStretches.{judging, observed, phase_step}
use Rattle.vme_monitor.specs.Run.{answer_kind, answered_kind, cycle_kind, kinds_of, machine_step, no_step_marks, quiet}
use Rattle.vme_monitor.specs.Run.{when, no_end_fault, no_start_marks}
use Rattle.vme_monitor.specs.KnownRules.{known_begin, known_end_fault, known_next, known_start_marks, known_reset_marks}
use Rattle.vme_monitor.specs.KnownRules.{known_observation}
use Rattle.vme_monitor.proofs.JoinedMarks.{AllFrom}
use Rattle.vme_monitor.specs.declared.mark.BusGrant.{BusGrant}
use Rattle.vme_monitor.specs.declared.mark.CycleStart.{CycleStart}
use Rattle.vme_monitor.specs.declared.mark.Fault.{Fault}
use Rattle.vme_monitor.specs.declared.mark.MarkKind.{MarkKind}
use Rattle.vme_monitor.specs.declared.mark.MarkKind.TheVariants.{Close, CycleEnd}
use Rattle.vme_monitor.specs.declared.mark.MarkKind.TheVariants.{Transfer}
use Rattle.vme_monitor.specs.declared.mark.Next.{Next}
use Rattle.vme_monitor.specs.declared.mark.StepMarks.{StepMarks}
use Rattle.vme_monitor.specs.declared.mark.TransferAnswer.{TransferAnswer}
use Rattle.vme_monitor.specs.declared.over_stretches.StretchPhase.{StretchPhase}
use Rattle.vme_monitor.specs.declared.over_stretches.StretchPhase.TheVariants as phase
use Rattle.vme_monitor.specs.declared.view.End.{End}
use Rattle.vme_monitor.specs.declared.view.End.TheVariants as end
use Rattle.vme_dtb.specs.Machine.{dtb_begin, dtb_observation, dtb_step}
use Rattle.vme_dtb.specs.StabilityRules.{stability_begin, stability_next, stability_observation}
use Rattle.vme_chains.specs.GrantRules.{grant_begin, grant_next, grant_start_marks, grant_observation}
use Rattle.vme_chains.specs.AcknowledgeRules.{acknowledge_begin, acknowledge_next, acknowledge_observation}
use Rattle.vme_summary.specs.Runs.{acknowledge_at, grant_at, handshake_at, known_at, stability_at}
use Rattle.vme_auditor.specs.declared.memories.Memories.{Memories}

-- if the start marks, the reset marks and what the rules show satisfy `AreItsKinds`, so does what a machine run over
-- stretches shows
module _ {P S : Type 0} (begin : Levels → P) (start_marks : Levels → StepMarks) (reset_marks : StepMarks)
    (end_fault : ℕ → Option Fault)
    (next : P → Levels → Levels → S → Next P) (AreItsKinds : StepMarks → Type 0) (none : AreItsKinds no_step_marks)
    (opened : (v : Levels) → AreItsKinds (start_marks v)) (reset : AreItsKinds reset_marks)
    (stepped : (p : P) (v w : Levels) (s : S) → AreItsKinds (next p v w s).shown) where
  -- what a step of a machine that waits shows satisfies `AreItsKinds`
  AreItsKinds-waiting : (m : StretchPhase P) (w : Levels) (b : Bool)
      → AreItsKinds (cond b (record { memory = phase.InStretch (begin w); fault = None; shown = start_marks w })
      (quiet m)).shown
  AreItsKinds-waiting m w true = opened w
  AreItsKinds-waiting m w false = none

  -- what the rules show at a step, with an observation or without one, satisfies `AreItsKinds`
  AreItsKinds-observation : (p : P) (v w : Levels) (s : Option S)
      → AreItsKinds (option_map_or (next p v w) s (quiet p)).shown
  AreItsKinds-observation p v w None = none
  AreItsKinds-observation p v w (Some s) = stepped p v w s

  -- what a step in a stretch shows satisfies `AreItsKinds`
  AreItsKinds-judging : (p : P) (v w : Levels) (e : Option End) (s : Option S)
      → AreItsKinds (judging begin start_marks reset_marks end_fault next p v w e s).shown
  AreItsKinds-judging p v w (Some end.Reset) s = reset
  AreItsKinds-judging p v w (Some (end.Lost l)) s = none
  AreItsKinds-judging p v w None s = AreItsKinds-observation p v w s

  module _ (observation : Levels → Levels → List Change → Option S) (v w : Levels) (cs : List Change) where
    -- what a step in any phase shows satisfies `AreItsKinds`
    AreItsKinds-phase_step : (m : StretchPhase P)
        → AreItsKinds (phase_step begin start_marks reset_marks end_fault next m v w
        (record { end = end_among w cs; inner = observation v w cs })).shown
    AreItsKinds-phase_step phase.Waiting = AreItsKinds-waiting phase.Waiting w (is_idle w)
    AreItsKinds-phase_step (phase.InStretch p) = AreItsKinds-judging p v w (end_among w cs) (observation v w cs)
    AreItsKinds-phase_step phase.Reset = AreItsKinds-waiting phase.Reset w (is_idle w)
    AreItsKinds-phase_step phase.Ended = none

    -- what a step shows at which something is observed, or nothing, satisfies `AreItsKinds`
    AreItsKinds-observed : (m : StretchPhase P) (b : Bool)
        → AreItsKinds (option_map_or (phase_step begin start_marks reset_marks end_fault next m v w)
        (cond b (Some (record { end = end_among w cs; inner = observation v w cs })) None) (quiet m)).shown
    AreItsKinds-observed m true = AreItsKinds-phase_step m
    AreItsKinds-observed m false = none

    -- what each step shows satisfies `AreItsKinds`
    pub AreItsKinds-machine_step : (m : StretchPhase P)
        → AreItsKinds (machine_step (observed observation) (phase_step begin start_marks reset_marks end_fault next) m v
        w
        cs).shown
    AreItsKinds-machine_step m = AreItsKinds-observed m (touches_control w.slots cs || is_some (observation v w cs))

-- the marks are of the stretch
abbrev pub OfStretch : StepMarks → Type 0
OfStretch k = k ≡ record no_step_marks { reset = k.reset; start = k.start }

-- the marks are of the tenure
abbrev pub OfTenure : StepMarks → Type 0
OfTenure k = k ≡ record no_step_marks { opened = k.opened; tenure = k.tenure; tenure_end = k.tenure_end }

-- the marks are of the cycle and the transfer
abbrev pub OfTransfer : StepMarks → Type 0
OfTransfer k = k ≡ record no_step_marks {
  cycle = k.cycle;
  cycle_end = k.cycle_end;
  transfer = k.transfer;
  answer = k.answer;
  close = k.close;
}

-- there are no marks
abbrev IsNothing : StepMarks → Type 0
IsNothing k = k ≡ no_step_marks

module _ (m : Memories) (v w : Levels) (cs : List Change) where
  -- the monitor of stretches shows only marks of the stretch
  pub OfStretch-known : OfStretch (known_at m.known v w cs).shown
  OfStretch-known =
      AreItsKinds-machine_step known_begin known_start_marks known_reset_marks known_end_fault known_next OfStretch refl
      (λ v. refl)
      refl (λ p v w s. refl) known_observation v w cs m.known

  -- the grant monitor shows only marks of the tenure
  pub OfTenure-grant : OfTenure (grant_at m.grant v w cs).shown
  OfTenure-grant =
      AreItsKinds-machine_step grant_begin grant_start_marks no_step_marks no_end_fault grant_next OfTenure refl
      (λ v. refl) refl
      (λ p v w s. refl) grant_observation v w cs m.grant

  -- the handshake monitor shows only marks of the cycle and the transfer
  pub OfTransfer-handshake : OfTransfer (handshake_at m.handshake v w cs).shown
  OfTransfer-handshake =
      AreItsKinds-machine_step dtb_begin no_start_marks no_step_marks no_end_fault dtb_step OfTransfer refl
      (λ v. refl) refl
      (λ p v w s. refl) dtb_observation v w cs m.handshake

  -- the stability monitor shows nothing
  pub IsNothing-stability : IsNothing (stability_at m.stability v w cs).shown
  IsNothing-stability =
      AreItsKinds-machine_step stability_begin no_start_marks no_step_marks no_end_fault stability_next IsNothing refl
      (λ v. refl) refl (λ p v w s. refl) stability_observation v w cs m.stability

  -- the acknowledge monitor shows nothing
  pub IsNothing-acknowledge : IsNothing (acknowledge_at m.acknowledge v w cs).shown
  IsNothing-acknowledge =
      AreItsKinds-machine_step acknowledge_begin no_start_marks no_step_marks no_end_fault acknowledge_next IsNothing
      refl (λ v. refl) refl (λ p v w s. refl) acknowledge_observation v w cs m.acknowledge

-- all kinds have numbers below `n`
abbrev pub AllBelow : ℕ → List MarkKind → Type 0
AllBelow n [] = Unit {0}
AllBelow n (k ∷ ks) = (kind_number k < n) × AllBelow n ks

-- two lists of kinds with numbers from `n` on make one
pub AllFrom-append : (n : ℕ) (ks ls : List MarkKind) → AllFrom n ks → AllFrom n ls → AllFrom n (ks ++ ls)
AllFrom-append n [] ls p q = q
AllFrom-append n (k ∷ ks) ls p q = (p.0, AllFrom-append n ks ls p.1 q)

-- a list of one kind from `n` on, or of none, has only kinds from `n` on
AllFrom-when : (n : ℕ) (b : Bool) (k : MarkKind) → n ≤ kind_number k → AllFrom n (option_to_list (when b k))
AllFrom-when n true k h = (h, tt)
AllFrom-when n false k h = tt

-- where each kind that f makes is from `n` on, that of an option's value, if it has one, is
AllFrom-option_map : {A : Type 0} (n : ℕ) (f : A → MarkKind) (o : Option A) → ((a : A) → n ≤ kind_number (f a))
    → AllFrom n (option_to_list (option_map f o))
AllFrom-option_map n f None h = tt
AllFrom-option_map n f (Some a) h = (h a, tt)

-- the number of an answer's kind is at least 5
kind_number-answer_kind : (line : ℕ) (lanes : Option Lanes) → 5 ≤ kind_number (answer_kind line lanes)
kind_number-answer_kind line None = lit≤ tt
kind_number-answer_kind line (Some lanes) = lit≤ tt

-- the kinds of the stretch have numbers below 2
AllBelow-stretch_fields : (reset start : Bool)
    → AllBelow 2 (kinds_of (record no_step_marks { reset = reset; start = start }))
AllBelow-stretch_fields true true = (lit< tt, (lit< tt, tt))
AllBelow-stretch_fields true false = (lit< tt, tt)
AllBelow-stretch_fields false true = (lit< tt, tt)
AllBelow-stretch_fields false false = tt

-- marks of the stretch have kinds below 2
pub AllBelow-stretch : (k : StepMarks) → OfStretch k → AllBelow 2 (kinds_of k)
AllBelow-stretch k own =
    subst (λ (k : StepMarks). AllBelow 2 (kinds_of k)) (sym own) (AllBelow-stretch_fields k.reset k.start)

-- the marks of the tenure with these fields
abbrev of_tenure : Bool → Option BusGrant → Bool → StepMarks
of_tenure opened tenure tenure_end =
    record no_step_marks { opened = opened; tenure = tenure; tenure_end = tenure_end }

-- marks of the tenure with these fields have kinds below 5
AllBelow-tenure_fields : (opened : Bool) (tenure : Option BusGrant) (tenure_end : Bool)
    → AllBelow 5 (kinds_of (of_tenure opened tenure tenure_end))
AllBelow-tenure_fields true (Some g) true = (lit< tt, (lit< tt, (lit< tt, tt)))
AllBelow-tenure_fields true (Some g) false = (lit< tt, (lit< tt, tt))
AllBelow-tenure_fields true None true = (lit< tt, (lit< tt, tt))
AllBelow-tenure_fields true None false = (lit< tt, tt)
AllBelow-tenure_fields false (Some g) true = (lit< tt, (lit< tt, tt))
AllBelow-tenure_fields false (Some g) false = (lit< tt, tt)
AllBelow-tenure_fields false None true = (lit< tt, tt)
AllBelow-tenure_fields false None false = tt

-- marks of the tenure have kinds below 5
pub AllBelow-tenure : (k : StepMarks) → OfTenure k → AllBelow 5 (kinds_of k)
AllBelow-tenure k own = subst (λ (k : StepMarks). AllBelow 5 (kinds_of k)) (sym own)
    (AllBelow-tenure_fields k.opened k.tenure k.tenure_end)

-- marks of the tenure with these fields have kinds from 2 on
AllFrom-tenure_fields : (opened : Bool) (tenure : Option BusGrant) (tenure_end : Bool)
    → AllFrom 2 (kinds_of (of_tenure opened tenure tenure_end))
AllFrom-tenure_fields true (Some g) true = (lit≤ tt, (lit≤ tt, (lit≤ tt, tt)))
AllFrom-tenure_fields true (Some g) false = (lit≤ tt, (lit≤ tt, tt))
AllFrom-tenure_fields true None true = (lit≤ tt, (lit≤ tt, tt))
AllFrom-tenure_fields true None false = (lit≤ tt, tt)
AllFrom-tenure_fields false (Some g) true = (lit≤ tt, (lit≤ tt, tt))
AllFrom-tenure_fields false (Some g) false = (lit≤ tt, tt)
AllFrom-tenure_fields false None true = (lit≤ tt, tt)
AllFrom-tenure_fields false None false = tt

-- marks of the tenure have kinds from 2 on
pub AllFrom-tenure : (k : StepMarks) → OfTenure k → AllFrom 2 (kinds_of k)
AllFrom-tenure k own = subst (λ (k : StepMarks). AllFrom 2 (kinds_of k)) (sym own)
    (AllFrom-tenure_fields k.opened k.tenure k.tenure_end)

-- the kinds of the cycle and the transfer have numbers from 5 on
module _ (n : ℕ) (few : n ≤ 5) where
  -- a number from 5 on is at least n
  le-from_5 : (k : ℕ) → 5 ≤ k → n ≤ k
  le-from_5 k h = omega arith

  -- marks of the cycle and the transfer with these fields have kinds from n on
  AllFrom-transfer_fields : (cycle : Option CycleStart) (cycle_end : Bool) (transfer : Option Bool)
      (answer : Option TransferAnswer)
      (close : Bool)
      → AllFrom n (kinds_of (record no_step_marks {
        cycle = cycle;
        cycle_end = cycle_end;
        transfer = transfer;
        answer = answer;
        close = close;
      }))
  AllFrom-transfer_fields cycle cycle_end transfer answer close =
      let first = option_to_list (option_map cycle_kind cycle) in
      let second = option_to_list (when cycle_end CycleEnd) in
      let third = option_to_list (option_map Transfer transfer) in
      let fourth = option_to_list (option_map answered_kind answer) in
      AllFrom-append n (first ++ second ++ third ++ fourth) (option_to_list (when close Close))
      (AllFrom-append n (first ++ second ++ third) fourth
      (AllFrom-append n (first ++ second) third
      (AllFrom-append n first second (AllFrom-option_map n cycle_kind cycle (λ a. le-from_5 5 (lit≤ tt)))
      (AllFrom-when n cycle_end CycleEnd (le-from_5 6 (lit≤ tt))))
      (AllFrom-option_map n Transfer transfer (λ a. le-from_5 7 (lit≤ tt))))
      (AllFrom-option_map n answered_kind answer
      (λ a. le-from_5 (kind_number (answered_kind a)) (kind_number-answer_kind a.line a.lanes))))
      (AllFrom-when n close Close (le-from_5 9 (lit≤ tt)))

  -- marks of the cycle and the transfer have kinds from n on
  pub AllFrom-transfer : (k : StepMarks) → OfTransfer k → AllFrom n (kinds_of k)
  AllFrom-transfer k own = subst (λ (k : StepMarks). AllFrom n (kinds_of k)) (sym own)
      (AllFrom-transfer_fields k.cycle k.cycle_end k.transfer k.answer k.close)
