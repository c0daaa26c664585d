-- The fault that the machine finds by C1, C2, I4 and I5 (docs/PROTOCOL.md) is the break of that rule.
use Rattle.std.proofs.Common.{◌≡◌, ℕ, suc, ◌<◌, ◌≤◌, Bool, true, false, ◌&&◌, refl, sym, ◌∙◌, ap, Option, Some, None}
use Rattle.std.proofs.Common.{cond}
use Rattle.std.specs.Prelude.{option_map, is_some}
use Rattle.std.proofs.Math.Bool.{and_assoc}
use Rattle.vme_trace.specs.Edges.{falls_between}
use Rattle.vme_trace.specs.LineNumbers.{AS, DTACK, BERR, is_answer_line, has_line}
use Rattle.vme_trace.specs.Trace.{Trace, time_at}
use Rattle.vme_trace.specs.Signals.{falls}
use Rattle.vme_trace.specs.Judged.{Stretch, is_judged}
use Rattle.vme_trace.specs.Transfers.{is_answer, answers_write}
use Rattle.vme_trace.specs.Cycles.{cycle_starts, class_at, in_cycle, answers_of}
use Rattle.vme_trace.specs.Rules.{breaks, is_broken, is_single, is_block_class, is_interrupt, has_earlier_answer}
use Rattle.vme_trace.specs.Rules.{breaks_read_modify_write}
use Rattle.vme_trace.specs.Rules.{changes_direction}
use Rattle.vme_trace.specs.Verdict.{rule_break}
use Rattle.vme_trace.specs.declared.rule.Rule.{Rule}
use Rattle.vme_trace.specs.declared.rule.Rule.TheVariants.{C1, C2, I4, I5}
use Rattle.vme_trace.proofs.OpenTransfers.{ReadsStrobes}
use Rattle.vme_monitor.specs.Run.{break_of_fault}
use Rattle.vme_monitor.specs.Tracking.{entered, is_unanswered, is_writing}
use Rattle.vme_monitor.specs.declared.tracking.TransferPhase.{TransferPhase}
use Rattle.vme_monitor.specs.declared.tracking.TransferPhase.TheVariants.{Closed, Reading, Writing, Answered}
use Rattle.vme_monitor.proofs.TrackedTransfers.{answers_write-tracked}
use Rattle.vme_dtb.specs.CycleState.{cycle_entered, is_interrupt_acknowledge, is_answered_interrupt_acknowledge}
use Rattle.vme_dtb.specs.CycleState.{is_read_modify_write_broken, is_direction_changed}
use Rattle.vme_dtb.specs.Edge.{cycle_start_of, edges_between}
use Rattle.vme_dtb.specs.Machine.{answer_in, fault_if, cycle_faults, cycle_rules}
use Rattle.vme_dtb.specs.declared.cycle.CyclePhase.{CyclePhase}
use Rattle.vme_dtb.specs.declared.edges.Edges.{Edges}
use Rattle.vme_dtb.specs.declared.memory.HandshakeMemory.{HandshakeMemory}
use Rattle.vme_dtb.proofs.Faults.{AreBreaksOf}
use Rattle.vme_dtb.proofs.CycleMemory.{cycle_before-next, cycle_before, in_interrupt_acknowledge}
use Rattle.vme_dtb.proofs.CycleMemory.{in_answered_interrupt_acknowledge, in_broken_read_modify_write}
use Rattle.vme_dtb.proofs.CycleMemory.{in_changed_direction}
use Rattle.vme_dtb.proofs.HandshakeBreaks.{is_answer-unanswered}
use Rattle.vme_dtb.proofs.HandshakeMeaning.{Holds}
use Rattle.vme_dtb.proofs.StepFacts.{old, new, first_of-answer_fall, falls-between, is_judged-next, least-answer_rule}
use Rattle.vme_dtb.proofs.StepFacts.{rule_break-fault_if, and-same}
use Rattle.vme_dtb.proofs.StepFacts.{cond-same, first_of-is_some}

-- a choice between none and none is none
none-cond : (b : Bool) → let none : Option ℕ = None in none ≡ cond b none none
none-cond true = refl
none-cond false = refl

-- the result is o or none, so the tests of whether there is an answer o can be left out
cond-by_direction : (f : Bool → Bool) (u w : Bool) (o : Option ℕ) → cond ((u && is_some o) && f (w && is_some o)) o None
    ≡ cond (f w) (cond u o None) None
cond-by_direction f true true None = none-cond (f true)
cond-by_direction f true false None = none-cond (f false)
cond-by_direction f false true None = none-cond (f true)
cond-by_direction f false false None = none-cond (f false)
cond-by_direction f true true (Some l) = refl
cond-by_direction f true false (Some l) = refl
cond-by_direction f false true (Some l) = none-cond (f true)
cond-by_direction f false false (Some l) = none-cond (f false)

-- the result is o or none, so the test of whether a write has an answer o can be left out; the phase `Writing` is
-- that of an unanswered transfer
cond-by_write : (e : TransferPhase) (x : Bool) (o : Option ℕ) → cond ((is_writing e && is_some o) && x) o None
    ≡ cond (x && is_writing e) (cond (is_unanswered e) o None) None
cond-by_write Closed true o = refl
cond-by_write Closed false o = refl
cond-by_write Reading true o = refl
cond-by_write Reading false o = refl
cond-by_write Writing true None = refl
cond-by_write Writing true (Some l) = refl
cond-by_write Writing false None = refl
cond-by_write Writing false (Some l) = refl
cond-by_write Answered true o = refl
cond-by_write Answered false o = refl

module _ (t : Trace) (stretch : Stretch) (reads : ReadsStrobes t stretch) (n : ℕ) (from : stretch.start ≤ n)
    (before : suc n < stretch.end) (m : HandshakeMemory) (holds : Holds t stretch n m) where
  -- the edges of the step from n to n + 1
  abbrev seen : Edges
  seen = edges_between (old t n) (new t n)

  -- the phase of the transfer in which n + 1 is, before an answer counts
  abbrev within : TransferPhase
  within = entered m.transfer (old t n) (new t n)

  -- the phase of the cycle in which instant n + 1 is
  abbrev here : CyclePhase
  here = cycle_entered m.cycle seen.shown.cycle

  -- a cycle starts at n + 1 exactly if AS* falls between the levels
  pub cycle_starts-between : cycle_starts t stretch (suc n) ≡ falls_between (old t n) (new t n) AS
  unfolding cycle_starts
  cycle_starts-between = rw (is_judged-next t n stretch from before, falls-between t n AS) refl

  -- the phase of the cycle in which n + 1 is, by the definitions, is that of the memory and the edges
  pub cycle_before-here : cycle_before t stretch (suc n) ≡ here
  cycle_before-here =
      cycle_before-next t stretch n from
      ∙ same_entered _ _ (cycle_starts t stretch (suc n)) (falls_between (old t n) (new t n) AS) (sym holds.cycle)
      cycle_starts-between
    where
      same_entered : (c d : CyclePhase) (a b : Bool) → c ≡ d → a ≡ b
          → cycle_entered c (cond a (Some (cycle_start_of (new t n)))
          None) ≡ cycle_entered d (cond b (Some (cycle_start_of (new t n))) None)
      same_entered c d a b e f = rw (e, f) refl

  -- instant n + 1 is the answer of a write just if an answer falls there, and the phase of the transfer is `Writing`
  pub answers_write-is_writing : answers_write t stretch (suc n) ≡ (is_writing within && is_some seen.answer_fall)
  answers_write-is_writing =
      answers_write-tracked t stretch reads n from before m.transfer holds.transfer
      ∙ ap (λ b. is_writing within && b) (first_of-is_some (falls_between (old t n) (new t n) DTACK)
      (falls_between (old t n) (new t n) BERR) DTACK BERR)

  -- the machine's fault by a rule that an answer breaks, if f of the phase of its cycle and of its direction says so,
  -- is the break of the rule
  rule_break-answer_rule : (r : Rule) (x : Bool) (f : CyclePhase → Bool → Bool)
      → ((l : ℕ) → breaks t stretch r (suc n) l ≡ (is_judged stretch (suc n) && has_line t.opening.slots l
      && (is_answer_line l && falls t l (suc n) && (is_answer t stretch (suc n) && x))))
      → x ≡ f (cycle_before t stretch (suc n)) (answers_write t stretch (suc n))
      → option_map (break_of_fault (suc n) (time_at t (suc n))) (fault_if r (f here (is_writing within))
      (answer_in within seen)) ≡ rule_break t stretch (suc n) r
  rule_break-answer_rule r x f form e =
      rule_break-fault_if t n stretch from before r (f here (is_writing within)) (answer_in within seen)
      (least-answer_rule t n stretch from before r (λ l. falls t l (suc n)) (is_answer t stretch (suc n) && x) form
      ∙ cond-same _ _ _ _ (and-same (is_answer t stretch (suc n)) x
      _ _ (is_answer-unanswered t stretch reads n from before m holds)
      (e ∙ same_test (cycle_before t stretch (suc n)) (answers_write t stretch (suc n)) cycle_before-here
      answers_write-is_writing))
      (first_of-answer_fall t n)
      ∙ cond-by_direction (f here) (is_unanswered within) (is_writing within) seen.answer_fall)
    where
      same_test : (c : CyclePhase) (w : Bool) → c ≡ here → w ≡ (is_writing within && is_some seen.answer_fall) → f c w
          ≡ f here (is_writing within && is_some seen.answer_fall)
      same_test c w e g = rw (e, g) refl

  -- n + 1 is in a single cycle that an answer there makes other than a read and then a write
  abbrev read_modify_write_broken : Bool
  read_modify_write_broken = in_cycle t stretch (λ i. is_single (class_at t i)
      && breaks_read_modify_write t stretch
      (answers_of t stretch i (suc n)) (suc n)) (suc n)

  -- C1 is broken on a line by the tests of its parts
  breaks-C1 : (l : ℕ) → breaks t stretch C1 (suc n) l ≡ (is_judged stretch (suc n) && has_line t.opening.slots l
      && (is_answer_line l && falls t l (suc n) && (is_answer t stretch (suc n) && read_modify_write_broken)))
  unfolding breaks is_broken
  breaks-C1 l = ap (λ b. is_judged stretch (suc n) && has_line t.opening.slots l && b)
      (and_assoc (is_answer_line l && falls t l (suc n)) (is_answer t stretch (suc n)) read_modify_write_broken)

  -- the machine's fault by C1 is the break of C1
  fault-C1 : option_map (break_of_fault (suc n) (time_at t (suc n)))
      (fault_if C1 (is_read_modify_write_broken here (is_writing within))
      (answer_in within seen)) ≡ rule_break t stretch (suc n) C1
  fault-C1 = rule_break-answer_rule C1 read_modify_write_broken is_read_modify_write_broken breaks-C1
      (in_broken_read_modify_write t stretch (suc n))

  -- n + 1 is in a block transfer whose direction an answer there changes
  abbrev direction_changed : Bool
  direction_changed = in_cycle t stretch (λ i. is_block_class (class_at t i) && changes_direction t stretch
      (answers_of t stretch i (suc n)) (suc n)) (suc n)

  -- C2 is broken on a line by the tests of its parts
  breaks-C2 : (l : ℕ) → breaks t stretch C2 (suc n) l ≡ (is_judged stretch (suc n) && has_line t.opening.slots l
      && (is_answer_line l && falls t l (suc n) && (is_answer t stretch (suc n) && direction_changed)))
  unfolding breaks is_broken
  breaks-C2 l = ap (λ b. is_judged stretch (suc n) && has_line t.opening.slots l && b)
      (and_assoc (is_answer_line l && falls t l (suc n)) (is_answer t stretch (suc n)) direction_changed)

  -- the machine's fault by C2 is the break of C2
  fault-C2 : option_map (break_of_fault (suc n) (time_at t (suc n)))
      (fault_if C2 (is_direction_changed here (is_writing within))
      (answer_in within seen)) ≡ rule_break t stretch (suc n) C2
  fault-C2 = rule_break-answer_rule C2 direction_changed is_direction_changed breaks-C2
      (in_changed_direction t stretch (suc n))

  -- n + 1 is in an interrupt acknowledge with an earlier answer
  abbrev answered_interrupt_acknowledge : Bool
  answered_interrupt_acknowledge = in_cycle t stretch (λ i. is_interrupt (class_at t i) && has_earlier_answer
      (answers_of t stretch i (suc n))) (suc n)

  -- I5 is broken on a line by the tests of its parts
  breaks-I5 : (l : ℕ) → breaks t stretch I5 (suc n) l ≡ (is_judged stretch (suc n) && has_line t.opening.slots l
      && (is_answer_line l && falls t l (suc n) && (is_answer t stretch (suc n) && answered_interrupt_acknowledge)))
  unfolding breaks is_broken
  breaks-I5 l = ap (λ b. is_judged stretch (suc n) && has_line t.opening.slots l && b)
      (and_assoc (is_answer_line l && falls t l (suc n)) (is_answer t stretch (suc n)) answered_interrupt_acknowledge)

  -- the machine's fault by I5 is the break of I5
  fault-I5 : option_map (break_of_fault (suc n) (time_at t (suc n)))
      (fault_if I5 (is_answered_interrupt_acknowledge here)
      (answer_in within seen))
      ≡ rule_break t stretch (suc n) I5
  fault-I5 = rule_break-answer_rule I5 answered_interrupt_acknowledge (λ c w. is_answered_interrupt_acknowledge c)
      breaks-I5
      (in_answered_interrupt_acknowledge t stretch (suc n))

  -- n + 1 is in an interrupt acknowledge
  abbrev interrupt_acknowledge : Bool
  interrupt_acknowledge = in_cycle t stretch (λ i. is_interrupt (class_at t i)) (suc n)

  -- I4 is broken on a line by the tests of its parts
  breaks-I4 : (l : ℕ) → breaks t stretch I4 (suc n) l ≡ (is_judged stretch (suc n) && has_line t.opening.slots l
      && (is_answer_line l && falls t l (suc n) && (answers_write t stretch (suc n) && interrupt_acknowledge)))
  unfolding breaks is_broken
  breaks-I4 l = ap (λ b. is_judged stretch (suc n) && has_line t.opening.slots l && b)
      (and_assoc (is_answer_line l && falls t l (suc n)) (answers_write t stretch (suc n)) interrupt_acknowledge)

  -- the machine's fault by I4 is the break of I4
  fault-I4 : option_map (break_of_fault (suc n) (time_at t (suc n)))
      (fault_if I4 (is_interrupt_acknowledge here && is_writing within)
      (answer_in within seen)) ≡ rule_break t stretch (suc n) I4
  fault-I4 =
      rule_break-fault_if t n stretch from before I4 (is_interrupt_acknowledge here && is_writing within)
      (answer_in within seen)
      (least-answer_rule t n stretch from before I4 (λ l. falls t l (suc n))
      (answers_write t stretch (suc n) && interrupt_acknowledge)
      breaks-I4
      ∙ cond-same _ _ _ _ (and-same (answers_write t stretch (suc n)) interrupt_acknowledge (is_writing within
      && is_some seen.answer_fall) (is_interrupt_acknowledge here) answers_write-is_writing
      (in_interrupt_acknowledge t stretch (suc n)
      ∙ ap is_interrupt_acknowledge cycle_before-here)) (first_of-answer_fall t n)
      ∙ cond-by_write within (is_interrupt_acknowledge here) seen.answer_fall)

  -- each fault is the break of its rule
  pub cycle_faults-are-breaks : AreBreaksOf (break_of_fault (suc n) (time_at t (suc n))) (rule_break t stretch (suc n))
      cycle_rules (cycle_faults here (is_writing within) (answer_in within seen))
  cycle_faults-are-breaks = (fault-C1, (fault-C2, (fault-I4, (fault-I5, tt))))
