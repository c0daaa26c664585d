-- What steps add to a tally, and what the marks of the steps add to it one by one, are the same.
use Rattle.std.proofs.Common.{◌≡◌, ℕ, suc, ◌+◌, ◌-◌, Bool, true, false, List, [], ◌∷◌, ◌++◌, length}
use Rattle.std.proofs.Common.{map}
use Rattle.std.proofs.Common.{take, drop, refl, sym, ◌∙◌, ap, arith, add-one, cond, Option, None, Some}
use Rattle.std.specs.Prelude.{slice_get}
use Rattle.std.specs.List.{fold}
use Rattle.std.proofs.lemmas.List.Sums.{fold-append}
use Rattle.std.specs.Option.{option_map, option_map_or, option_or, option_to_list}
use Rattle.vme_trace.specs.Levels.{Levels}
use Rattle.vme_trace.specs.Trace.{changed, levels_at, recorded, time_of}
use Rattle.vme_trace.specs.declared.data.Lanes.{Lanes}
use Rattle.vme_trace.specs.declared.step.Step.{Step}
use Rattle.vme_trace.specs.declared.verdict.Break.{Break}
use Rattle.vme_monitor.specs.Outcome.{BreakWithin, shifted_break, shifted_mark}
use Rattle.vme_monitor.specs.Run.{answer_kind, answered_kind, break_of_fault, cycle_kind, kinds_of, mark_at}
use Rattle.vme_monitor.specs.Run.{tenure_kind}
use Rattle.vme_monitor.specs.Run.{when}
use Rattle.vme_monitor.specs.declared.mark.BusGrant.{BusGrant}
use Rattle.vme_monitor.specs.declared.mark.CycleStart.{CycleStart}
use Rattle.vme_monitor.specs.declared.mark.Fault.{Fault}
use Rattle.vme_monitor.specs.declared.mark.Mark.{Mark}
use Rattle.vme_monitor.specs.declared.mark.MarkKind.{MarkKind}
use Rattle.vme_monitor.specs.declared.mark.MarkKind.TheVariants as kind
use Rattle.vme_monitor.specs.declared.mark.StepMarks.{StepMarks}
use Rattle.vme_monitor.specs.declared.mark.TransferAnswer.{TransferAnswer}
use Rattle.vme_summary.specs.Runs.{grant_at, handshake_at, known_at}
use Rattle.vme_auditor.specs.Audited.{AuditReached, with_step}
use Rattle.vme_auditor.specs.FirstBreak.{first_break_from}
use Rattle.vme_auditor.specs.JoinedMarks.{joined_marks, kinds_shown}
use Rattle.vme_auditor.specs.Memories.{first_fault_of, memories_at, memories_next}
use Rattle.vme_auditor.specs.Tallied.{at_answer, at_break, at_cycle, at_reset, at_tenure, at_transfer, counted, tallied}
use Rattle.vme_auditor.specs.declared.memories.Memories.{Memories}
use Rattle.vme_auditor.specs.declared.tally.StartedTransfer.{StartedTransfer}
use Rattle.vme_auditor.specs.declared.tally.Tally.{Tally}
use Rattle.vme_auditor.proofs.FirstBreaks.{BreakWithin-first_break}
use Rattle.vme_auditor.proofs.MarkCounts.{kind_tallied, mark_tallied}
use Rattle.vme_auditor.proofs.ShownKinds.{OfTenure-grant, OfTransfer-handshake, OfStretch-known}
use Rattle.vme_auditor.proofs.ReturnedBreaks.{levels_at-later_step, memories_after, memories-with_step}

-- what the kinds of one instant add, one by one
module _ (at : ℕ → StartedTransfer) (i : ℕ) where
  -- the tally after a mark of this kind at instant `i`
  abbrev kind_step : Tally → MarkKind → Tally
  kind_step a k = kind_tallied at a i k

  -- the tally after all marks of instant `i` at once
  abbrev kinds_tallied : Tally → StepMarks → Tally
  kinds_tallied a k =
      let b = cond k.reset (at_reset suc a) a in
      let c = option_map_or (at_tenure suc b) k.tenure b in
      let d = option_map_or (at_cycle suc c) k.cycle c in
      let e = option_map_or (at_transfer suc d (at i)) k.transfer d in
      option_map_or (at_answer suc e) k.answer e

  -- the kinds `xs`, and after them `ys`, take tally `a` to `c`
  fold-append_kinds : (xs ys : List MarkKind) (a b c : Tally) → fold kind_step a xs ≡ b → fold kind_step b ys ≡ c
      → fold kind_step a (xs ++ ys) ≡ c
  fold-append_kinds xs ys a b c p q = fold-append kind_step a xs ys ∙ ap (λ (b : Tally). fold kind_step b ys) p ∙ q

  -- a kind that adds nothing, or none, leaves the tally as it is
  fold-when : (b : Bool) (k : MarkKind) (a : Tally) → kind_step a k ≡ a → fold kind_step a (option_to_list (when b k))
      ≡ a
  fold-when true k a e = e
  fold-when false k a e = refl

  -- a reset, or none, adds what `at_reset` does
  fold-reset : (b : Bool) (a : Tally) → fold kind_step a (option_to_list (when b kind.Reset))
      ≡ cond b (at_reset suc a) a
  fold-reset true a = refl
  fold-reset false a = refl

  -- the start of a tenure, or none, adds what `at_tenure` does
  fold-tenure : (o : Option BusGrant) (a : Tally) → fold kind_step a (option_to_list (option_map tenure_kind o))
      ≡ option_map_or (at_tenure suc a) o a
  fold-tenure None a = refl
  fold-tenure (Some g) a = refl

  -- the start of a cycle, or none, adds what `at_cycle` does
  fold-cycle : (o : Option CycleStart) (a : Tally) → fold kind_step a (option_to_list (option_map cycle_kind o))
      ≡ option_map_or (at_cycle suc a) o a
  fold-cycle None a = refl
  fold-cycle (Some c) a = refl

  -- the start of a transfer, or none, adds what `at_transfer` does
  fold-transfer : (o : Option Bool) (a : Tally) → fold kind_step a (option_to_list (option_map kind.Transfer o))
      ≡ option_map_or (at_transfer suc a (at i)) o a
  fold-transfer None a = refl
  fold-transfer (Some w) a = refl

  -- an answer, with data or without, adds what `at_answer` does
  kind_step-answer_kind : (line : ℕ) (lanes : Option Lanes) (a : Tally) → kind_step a (answer_kind line lanes)
      ≡ at_answer suc a (record { line = line; lanes = lanes })
  kind_step-answer_kind line None a = refl
  kind_step-answer_kind line (Some lanes) a = refl

  -- an answer, or none, adds what `at_answer` does
  fold-answer : (o : Option TransferAnswer) (a : Tally) → fold kind_step a (option_to_list (option_map answered_kind o))
      ≡ option_map_or (at_answer suc a) o a
  fold-answer None a = refl
  fold-answer (Some x) a = kind_step-answer_kind x.line x.lanes a

  -- the marks `k` of a step
  module _ (k : StepMarks) (a : Tally) where
    -- the kind of a reset, if there is one
    abbrev resets : List MarkKind
    resets = option_to_list (when k.reset kind.Reset)

    -- the kind of the start of a stretch, if there is one
    abbrev starts : List MarkKind
    starts = option_to_list (when k.start kind.Start)

    -- the kind of an open tenure, if there is one
    abbrev opens : List MarkKind
    opens = option_to_list (when k.opened kind.Open)

    -- the kind of the start of a tenure, if there is one
    abbrev tenures : List MarkKind
    tenures = option_to_list (option_map tenure_kind k.tenure)

    -- the kind of the end of a tenure, if there is one
    abbrev tenure_ends : List MarkKind
    tenure_ends = option_to_list (when k.tenure_end kind.TenureEnd)

    -- the kind of the start of a cycle, if there is one
    abbrev cycles : List MarkKind
    cycles = option_to_list (option_map cycle_kind k.cycle)

    -- the kind of the end of a cycle, if there is one
    abbrev cycle_ends : List MarkKind
    cycle_ends = option_to_list (when k.cycle_end kind.CycleEnd)

    -- the kind of the start of a transfer, if there is one
    abbrev transfers : List MarkKind
    transfers = option_to_list (option_map kind.Transfer k.transfer)

    -- the kind of an answer, if there is one
    abbrev answers : List MarkKind
    answers = option_to_list (option_map answered_kind k.answer)

    -- the kind of the close of a transfer, if there is one
    abbrev closes : List MarkKind
    closes = option_to_list (when k.close kind.Close)

    -- one by one the marks add what they add all at once
    fold-kinds_of : fold kind_step a (kinds_of k) ≡ kinds_tallied a k
    fold-kinds_of =
        let b = cond k.reset (at_reset suc a) a in
        let c = option_map_or (at_tenure suc b) k.tenure b in
        let d = option_map_or (at_cycle suc c) k.cycle c in
        let e = option_map_or (at_transfer suc d (at i)) k.transfer d in
        let f = option_map_or (at_answer suc e) k.answer e in
        let first = fold-append_kinds resets starts a b b (fold-reset k.reset a)
        (fold-when k.start kind.Start b refl) in
        let second = fold-append_kinds (resets ++ starts) opens a b b first (fold-when k.opened kind.Open b refl) in
        let third = fold-append_kinds (resets ++ starts ++ opens) tenures a b c second (fold-tenure k.tenure b) in
        let fourth = fold-append_kinds (resets ++ starts ++ opens ++ tenures) tenure_ends a c c third
        (fold-when k.tenure_end kind.TenureEnd c refl) in
        let fifth = fold-append_kinds (resets ++ starts ++ opens ++ tenures ++ tenure_ends) cycles a c d fourth
        (fold-cycle k.cycle c) in
        let sixth = fold-append_kinds (resets ++ starts ++ opens ++ tenures ++ tenure_ends ++ cycles) cycle_ends a d d
        fifth
        (fold-when k.cycle_end kind.CycleEnd d refl) in
        let seventh = fold-append_kinds (resets ++ starts ++ opens ++ tenures ++ tenure_ends ++ cycles ++ cycle_ends)
        transfers a d e
        sixth (fold-transfer k.transfer d) in
        let eighth = fold-append_kinds
        (resets ++ starts ++ opens ++ tenures ++ tenure_ends ++ cycles ++ cycle_ends ++ transfers)
        answers
        a e f seventh (fold-answer k.answer e) in
        fold-append_kinds (resets ++ starts ++ opens ++ tenures ++ tenure_ends ++ cycles ++ cycle_ends ++ transfers
        ++ answers)
        closes a
        f f eighth (fold-when k.close kind.Close f refl)

  -- marks of instant `i` add what their kinds add
  fold-marks_of_kinds : (ks : List MarkKind) (a : Tally) → fold (mark_tallied at) a (map (mark_at i) ks)
      ≡ fold kind_step a ks
  fold-marks_of_kinds [] a = refl
  fold-marks_of_kinds (k ∷ ks) a = fold-marks_of_kinds ks (kind_step a k)

-- the marks of a step add to a tally what the step does
fold-kinds_shown : (at : ℕ → StartedTransfer) (m : Memories) (o after : Levels) (s : Step) (a : Tally)
    → fold (mark_tallied at) a (map (mark_at 1) (kinds_shown m o after s.changes))
    ≡ tallied suc a (at 1).instant (at 1).time (known_at m.known o after s.changes).shown
    (grant_at m.grant o after s.changes).shown (handshake_at m.handshake o after s.changes).shown
fold-kinds_shown at m o after s a =
    let k = (known_at m.known o after s.changes).shown in
    let g = (grant_at m.grant o after s.changes).shown in
    let d = (handshake_at m.handshake o after s.changes).shown in
    let b = cond k.reset (at_reset suc a) a in
    let c = option_map_or (at_tenure suc b) g.tenure b in
    fold-marks_of_kinds at 1 (kinds_shown m o after s.changes) a
    ∙ fold-append_kinds at 1 (kinds_of k) (kinds_of g ++ kinds_of d) a b (kinds_tallied at 1 c d)
    (fold-kinds_of at 1 k a ∙ ap (kinds_tallied at 1 a) (OfStretch-known m o after s.changes))
    (fold-append_kinds at 1 (kinds_of g) (kinds_of d) b c (kinds_tallied at 1 c d)
    (fold-kinds_of at 1 g b ∙ ap (kinds_tallied at 1 b) (OfTenure-grant m o after s.changes))
    (fold-kinds_of at 1 d c))
    ∙ ap (kinds_tallied at 1 c) (OfTransfer-handshake m o after s.changes)

-- the tally after a step: at a break the part ends
abbrev pub tally_after : (ℕ → ℕ) → Option Fault → Tally → ℕ → ℕ → StepMarks → StepMarks → StepMarks → Tally
tally_after more None a n time k g d = tallied more a n time k g d
tally_after more (Some f) a n time k g d = at_break more a

-- the tally after steps `x`, by monitors that start from memories `m`
unfoldable pub tally_by : (ℕ → ℕ) → Memories → Levels → ℕ → Tally → List Step → Tally
tally_by more m o n a [] = a
tally_by more m o n a (s ∷ x) =
    let after = changed o s.changes in
    let fault = first_fault_of m o after s.changes in
    tally_by more (memories_after fault after (memories_next m o after s.changes)) after (n + 1)
    (tally_after more fault a (n + 1) s.time (known_at m.known o after s.changes).shown
    (grant_at m.grant o after s.changes).shown (handshake_at m.handshake o after s.changes).shown) x

-- the tally of an audit after one more step is what `tally_after` makes of that before it
tally-with_step : (r : AuditReached) (s : Step) → (with_step r s).audit.tally
    ≡ tally_after counted (first_fault_of r.audit.memories r.levels (changed r.levels s.changes) s.changes)
    r.audit.tally (r.instant + 1) s.time (known_at r.audit.memories.known r.levels (changed r.levels s.changes)
    s.changes).shown (grant_at r.audit.memories.grant r.levels (changed r.levels s.changes) s.changes).shown
    (handshake_at r.audit.memories.handshake r.levels (changed r.levels s.changes) s.changes).shown
tally-with_step r s = by_fault (first_fault_of r.audit.memories r.levels (changed r.levels s.changes) s.changes) refl
  where
    by_fault : (f : Option Fault) → first_fault_of r.audit.memories r.levels (changed r.levels s.changes) s.changes ≡ f
        → (with_step r s).audit.tally
        ≡ tally_after counted f r.audit.tally (r.instant + 1) s.time
        (known_at r.audit.memories.known r.levels (changed r.levels s.changes) s.changes).shown
        (grant_at r.audit.memories.grant r.levels (changed r.levels s.changes) s.changes).shown
        (handshake_at r.audit.memories.handshake r.levels (changed r.levels s.changes) s.changes).shown
    by_fault None e = rw e refl
    by_fault (Some f) e = rw e refl

-- the tally of an audit after the steps `x` is that of its monitors, from its state on
pub tally-after_steps : (x : List Step) (r : AuditReached) → (fold with_step r x).audit.tally
    ≡ tally_by counted r.audit.memories r.levels r.instant r.audit.tally x
unfolding tally_by
tally-after_steps [] r = refl
tally-after_steps (s ∷ x) r =
    let after = changed r.levels s.changes in
    let q = with_step r s in
    tally-after_steps x q
    ∙ ap (λ (m : Memories). tally_by counted m after (r.instant + 1) q.audit.tally x) (memories-with_step r s)
    ∙ ap (λ (a : Tally). tally_by counted (memories_after (first_fault_of r.audit.memories r.levels after s.changes)
    after (memories_next r.audit.memories r.levels after s.changes)) after (r.instant + 1) a x) (tally-with_step r s)

-- the tally after steps `x`, where breaks are ignored
unfoldable pub unbroken_tally : Memories → Levels → ℕ → Tally → List Step → Tally
unbroken_tally m o n a [] = a
unbroken_tally m o n a (s ∷ x) =
    let after = changed o s.changes in
    unbroken_tally (memories_next m o after s.changes) after (n + 1)
    (tallied suc a (n + 1) s.time (known_at m.known o after s.changes).shown
    (grant_at m.grant o after s.changes).shown (handshake_at m.handshake o after s.changes).shown) x

-- the tally up to the first break, and after it
abbrev pub tally_around_break : Memories → Levels → ℕ → Tally → List Step → Option Break → Tally
tally_around_break m o n a x None = unbroken_tally m o n a x
tally_around_break m o n a x (Some b) =
    let left = levels_at (recorded o x) b.instant in
    tally_by suc (memories_at left) left (n + b.instant)
    (at_break suc (unbroken_tally m o n a (take (b.instant - 1) x))) (drop b.instant x)

module _ (m : Memories) (o : Levels) (s : Step) (x : List Step) (n : ℕ) (a : Tally) where
  -- the levels after the step
  abbrev after : Levels
  after = changed o s.changes

  -- the memories after the step, if it is no break
  abbrev next : Memories
  next = memories_next m o after s.changes

  -- the tally after the step, if it is no break
  abbrev next_tally : Tally
  next_tally = tallied suc a (n + 1) s.time (known_at m.known o after s.changes).shown
      (grant_at m.grant o after s.changes).shown (handshake_at m.handshake o after s.changes).shown

  -- the break found in `x` is one instant later if `s` comes before
  tally_around_break-shifted : (e : Option Break) → BreakWithin (length x) e
      → tally_around_break next after (n + 1) next_tally x e
      ≡ tally_around_break m o n a (s ∷ x) (option_map (shifted_break 1) e)
  unfolding unbroken_tally
  tally_around_break-shifted None w = refl
  tally_around_break-shifted (Some b) w =
      let one_less : (b.instant + 1) - 1 ≡ suc (b.instant - 1) = omega arith in
      let same : (n + 1) + b.instant ≡ n + suc b.instant = omega arith in
      rw (one_less, add-one b.instant, levels_at-later_step o s x b.instant, same) refl

  -- if the tally after `x` is that around the first break of `x`, so is that after `s` and `x`
  tally_around_break-step : (f : Option Fault) → tally_by suc next after (n + 1) next_tally x
      ≡ tally_around_break next after (n + 1) next_tally x (first_break_from next after x)
      → tally_by suc (memories_after f after next) after (n + 1)
      (tally_after suc f a (n + 1) s.time (known_at m.known o after s.changes).shown
      (grant_at m.grant o after s.changes).shown (handshake_at m.handshake o after s.changes).shown) x
      ≡ tally_around_break m o n a (s ∷ x)
      (option_or (option_map (break_of_fault 1 s.time) f)
      (option_map (shifted_break 1) (first_break_from next after x)))
  unfolding levels_at unbroken_tally
  tally_around_break-step None so_far =
      so_far ∙ tally_around_break-shifted (first_break_from next after x) (BreakWithin-first_break x next after)
  tally_around_break-step (Some f) so_far = refl

-- the tally after steps is that around their first break
pub tally_by-first_break : (x : List Step) (m : Memories) (o : Levels) (n : ℕ) (a : Tally) → tally_by suc m o n a x
    ≡ tally_around_break m o n a x (first_break_from m o x)
unfolding tally_by unbroken_tally first_break_from
tally_by-first_break [] m o n a = refl
tally_by-first_break (s ∷ x) m o n a =
    tally_around_break-step m o s x n a (first_fault_of m o (changed o s.changes) s.changes)
    (tally_by-first_break x (next m o s x n a) (after m o s x n a) (n + 1) (next_tally m o s x n a))

-- marks that are one instant later add the same as the marks with `at` one instant later
fold-shifted_marks : (at : ℕ → StartedTransfer) (ms : List Mark) (a : Tally) → fold (mark_tallied at) a
    (map (shifted_mark 1) ms)
    ≡ fold (mark_tallied (λ i. at (i + 1))) a ms
fold-shifted_marks at [] a = refl
fold-shifted_marks at (m ∷ ms) a =
    fold-shifted_marks at ms (mark_tallied at a (shifted_mark 1 m))
    ∙ ap (λ (b : Tally). fold (mark_tallied (λ i. at (i + 1))) b ms) (by_kind m.instant m.kind)
  where
    by_kind : (i : ℕ) (k : MarkKind) → kind_tallied at a (i + 1) k ≡ kind_tallied (λ i. at (i + 1)) a i k
    by_kind i kind.Reset = refl
    by_kind i kind.Start = refl
    by_kind i kind.Open = refl
    by_kind i (kind.Tenure level slot) = refl
    by_kind i kind.TenureEnd = refl
    by_kind i (kind.Cycle c modifier address) = refl
    by_kind i kind.CycleEnd = refl
    by_kind i (kind.Transfer write) = refl
    by_kind i (kind.Answer line) = refl
    by_kind i (kind.WriteAnswer line moved unknown value) = refl
    by_kind i kind.Close = refl

-- `at` gives the start of a transfer at the `i`-th step of `x`: instant `n + i` and the time of that step
abbrev pub StartsAt : ℕ → List Step → (ℕ → StartedTransfer) → Type 0
StartsAt n x at = (i : ℕ) → at (suc i) ≡ record { instant = n + suc i; time = time_of (slice_get x i) }

-- where breaks are ignored, steps add to a tally what their marks do
pub unbroken_tally-marks : (x : List Step) (m : Memories) (o : Levels) (n : ℕ) (a : Tally) (at : ℕ → StartedTransfer)
    → StartsAt n x at → unbroken_tally m o n a x ≡ fold (mark_tallied at) a (joined_marks m o x)
unfolding unbroken_tally joined_marks
unbroken_tally-marks [] m o n a at starts = refl
unbroken_tally-marks (s ∷ x) m o n a at starts =
    let after = changed o s.changes in
    let next = memories_next m o after s.changes in
    let k = (known_at m.known o after s.changes).shown in
    let g = (grant_at m.grant o after s.changes).shown in
    let d = (handshake_at m.handshake o after s.changes).shown in
    let first : fold (mark_tallied at) a (map (mark_at 1) (kinds_shown m o after s.changes))
    ≡ tallied suc a (n + 1) s.time k g d = fold-kinds_shown at m o after s a
    ∙ ap (λ (t : StartedTransfer). tallied suc a t.instant t.time k g d) (starts 0) in
    unbroken_tally-marks x next after (n + 1) (tallied suc a (n + 1) s.time k g d) (λ i. at (i + 1))
    (later_starts s x n at starts)
    ∙ sym (fold-shifted_marks at (joined_marks next after x) (tallied suc a (n + 1) s.time k g d))
    ∙ ap (λ (b : Tally). fold (mark_tallied at) b (map (shifted_mark 1) (joined_marks next after x))) (sym first)
    ∙ sym (fold-append (mark_tallied at) a (map (mark_at 1) (kinds_shown m o after s.changes))
    (map (shifted_mark 1) (joined_marks next after x)))
  where
    later_starts : (s : Step) (x : List Step) (n : ℕ) (at : ℕ → StartedTransfer) → StartsAt n (s ∷ x) at
        → StartsAt (n + 1) x (λ i. at (i + 1))
    later_starts s x n at starts i =
        ap at (add-one (suc i)) ∙ starts (suc i)
        ∙ ap (λ k. record { instant = k; time = time_of (slice_get x i) }) (moved n i)
      where
        moved : (n i : ℕ) → n + suc (suc i) ≡ (n + 1) + suc i
        moved n i = omega arith
