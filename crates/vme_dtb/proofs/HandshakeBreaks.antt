-- The rules H1 to H8: the fault that the machine finds by each, from the memory (the state of the automaton) and the
-- edges, is the break of that rule.
use Rattle.std.proofs.Common.{◌≡◌, ℕ, suc, ◌+◌, ◌<◌, ◌≤◌, Bool, true, false, ◌&&◌, ◌||◌, not, refl, sym, ◌∙◌, ap}
use Rattle.std.proofs.Common.{Option, Some, None, cond}
use Rattle.std.specs.Prelude.{option_map, is_some, nat_lt, ◌==◌}
use Rattle.std.proofs.Math.Bool.{and_assoc, and_comm}
use Rattle.vme_trace.specs.Edges.{falls_between, rises_between}
use Rattle.vme_trace.specs.Instants.{none}
use Rattle.vme_trace.specs.LineNumbers.{AS, DTACK, BERR, is_answer_line, is_strobe, has_line}
use Rattle.vme_trace.specs.Trace.{Trace, time_at}
use Rattle.vme_trace.specs.Signals.{near, falls, rises, high, low}
use Rattle.vme_trace.specs.Judged.{Stretch, is_judged}
use Rattle.vme_trace.specs.Tenures.{last_before}
use Rattle.vme_trace.specs.Transfers.{strobe_rises, transfer_starts, is_answered, answers, in_transfer, is_answer}
use Rattle.vme_trace.specs.Rules.{breaks, is_broken}
use Rattle.vme_trace.specs.Verdict.{rule_break}
use Rattle.vme_trace.specs.declared.rule.Rule.TheVariants.{H1, H2, H3, H4, H5, H6, H7, H8}
use Rattle.vme_trace.proofs.OpenTransfers.{ReadsStrobes}
use Rattle.vme_monitor.specs.Run.{break_of_fault}
use Rattle.vme_monitor.specs.Tracking.{entered, is_unanswered, is_within}
use Rattle.vme_monitor.specs.declared.tracking.TransferPhase.{TransferPhase}
use Rattle.vme_monitor.proofs.TrackedTransfers.{in_transfer-tracked, is_answer-tracked}
use Rattle.vme_dtb.specs.Edge.{edges_between}
use Rattle.vme_dtb.specs.Machine.{answer_in, fault_if, early_rise, may_rise, is_doubled, has_answer, is_left_unanswered}
use Rattle.vme_dtb.specs.Machine.{strobe_faults}
use Rattle.vme_dtb.specs.Machine.{strobe_rules}
use Rattle.vme_dtb.specs.declared.edges.Edges.{Edges}
use Rattle.vme_dtb.specs.declared.memory.HandshakeMemory.{HandshakeMemory}
use Rattle.vme_dtb.proofs.Faults.{AreBreaksOf}
use Rattle.vme_dtb.proofs.AnswerRises.{may_rise_at, rises-held}
use Rattle.vme_dtb.proofs.HandshakeMeaning.{Holds}
use Rattle.vme_dtb.proofs.OpenState.{in_transfer-answered_twice, in_transfer-has_answer, in_transfer-is_unanswered}
use Rattle.vme_dtb.proofs.StepFacts.{old, new, answer_falls-between, first_of-answer_fall, falls-between, least-AS_rule}
use Rattle.vme_dtb.proofs.StepFacts.{least-answer_rule, least-strobe_rule, rises-between, rule_break-fault_if, and-same}
use Rattle.vme_dtb.proofs.StepFacts.{cond-same, first_of-same, first_of-is_some}
use Rattle.vme_dtb.proofs.StepFacts.{transfer_starts-between, first_of-strobe_fall, first_of-strobe_rise}
use Rattle.vme_dtb.proofs.StepFacts.{strobe_rises-between, unaddressed-between}
use Rattle.vme_dtb.proofs.StepFacts.{answer_not_high-between}

-- the second and third parts of a conjunction may be swapped
and-swapped : (a x y : Bool) → (a && x && y) ≡ (a && y && x)
and-swapped true true true = refl
and-swapped true true false = refl
and-swapped true false true = refl
and-swapped true false false = refl
and-swapped false x y = refl

-- a conjunction with true at its end
and-true_last : (a x : Bool) → (a && x) ≡ (a && x && true)
and-true_last true true = refl
and-true_last true false = refl
and-true_last false x = refl

-- the result is o or none, so the test of whether an answer line o falls can be left out
cond-answer : (u x : Bool) (o : Option ℕ) → cond ((u && is_some o) && x) o None ≡ cond x (cond u o None) None
cond-answer true true None = refl
cond-answer true true (Some l) = refl
cond-answer true false None = refl
cond-answer true false (Some l) = refl
cond-answer false true None = refl
cond-answer false true (Some l) = refl
cond-answer false false None = refl
cond-answer false false (Some l) = refl

module _ (t : Trace) (stretch : Stretch) (reads : ReadsStrobes t stretch) (n : ℕ) (from : stretch.start ≤ n)
    (before : suc n < stretch.end) (m : HandshakeMemory) (holds : Holds t stretch n m) where
  -- the edges of the step from n to n + 1
  abbrev seen : Edges
  seen = edges_between (old t n) (new t n)

  -- the phase of the transfer in which n + 1 is, before an answer counts
  abbrev within : TransferPhase
  within = entered m.transfer (old t n) (new t n)

  -- H1 is broken on a line by the tests of its parts
  breaks-H1 : (l : ℕ) → breaks t stretch H1 (suc n) l ≡ (is_judged stretch (suc n) && has_line t.opening.slots l
      && (is_answer_line l && not (near (high t l) (suc n)) && transfer_starts t stretch (suc n)))
  unfolding breaks is_broken
  breaks-H1 l = ap (λ b. is_judged stretch (suc n) && has_line t.opening.slots l && b)
      (and-swapped (is_answer_line l) (transfer_starts t stretch (suc n)) (not (near (high t l) (suc n))))

  -- the machine's fault by H1 is the break of H1
  fault-H1 : option_map (break_of_fault (suc n) (time_at t (suc n))) (fault_if H1 true seen.answer_not_high)
      ≡ rule_break t stretch (suc n) H1
  fault-H1 =
      rule_break-fault_if t n stretch from before H1 true seen.answer_not_high
      (least-answer_rule t n stretch from before H1 (λ l. not (near (high t l) (suc n)))
      (transfer_starts t stretch (suc n))
      breaks-H1
      ∙ cond-same _ _ _ _ (transfer_starts-between t n stretch from before) (first_of-same _ _ _ _ DTACK BERR
      (answer_not_high-between t n DTACK)
      (answer_not_high-between t n BERR)))

  -- the transfer of i started before n + 1, and has no answer up to it
  abbrev left_unanswered_at : ℕ → Bool
  left_unanswered_at i = nat_lt i (suc n) && not (is_answered t stretch i (suc n + 1))

  -- n + 1 is in a transfer that started before and has no answer up to there exactly if the phase and the edges say so
  in_transfer-left_unanswered : in_transfer t stretch left_unanswered_at (suc n) ≡ is_left_unanswered m.transfer seen
  in_transfer-left_unanswered = in_transfer-is_unanswered t stretch reads n from before m.transfer holds.transfer
      ∙ ap (λ b. is_unanswered m.transfer
      && not b) (answer_falls-between t n)

  -- H2 is broken on a line by the tests of its parts
  breaks-H2 : (l : ℕ) → breaks t stretch H2 (suc n) l ≡ (is_judged stretch (suc n) && has_line t.opening.slots l
      && (is_strobe l && rises t l (suc n) && in_transfer t stretch left_unanswered_at (suc n)))
  unfolding breaks is_broken
  breaks-H2 l = refl

  -- the machine's fault by H2 is the break of H2
  fault-H2 : option_map (break_of_fault (suc n) (time_at t (suc n)))
      (fault_if H2 (is_left_unanswered m.transfer seen) seen.strobe_rise)
      ≡ rule_break t stretch (suc n) H2
  fault-H2 =
      rule_break-fault_if t n stretch from before H2 (is_left_unanswered m.transfer seen) seen.strobe_rise
      (least-strobe_rule t n stretch from before H2 (λ l. rises t l (suc n))
      (in_transfer t stretch left_unanswered_at (suc n))
      breaks-H2
      ∙ cond-same _ _ _ _ in_transfer-left_unanswered (first_of-strobe_rise t n))

  -- the transfer of i started before n + 1, and has an answer before it
  abbrev replied_at : ℕ → Bool
  replied_at i = nat_lt i (suc n) && is_answered t stretch i (suc n)

  -- H3 is broken on a line by the tests of its parts
  breaks-H3 : (l : ℕ) → breaks t stretch H3 (suc n) l ≡ (is_judged stretch (suc n) && has_line t.opening.slots l
      && (is_strobe l && falls t l (suc n) && in_transfer t stretch replied_at (suc n)))
  unfolding breaks is_broken
  breaks-H3 l = refl

  -- the machine's fault by H3 is the break of H3
  fault-H3 : option_map (break_of_fault (suc n) (time_at t (suc n)))
      (fault_if H3 (has_answer m.transfer) seen.strobe_fall)
      ≡ rule_break t stretch (suc n) H3
  fault-H3 =
      rule_break-fault_if t n stretch from before H3 (has_answer m.transfer) seen.strobe_fall
      (least-strobe_rule t n stretch from before H3 (λ l. falls t l (suc n))
      (in_transfer t stretch replied_at (suc n)) breaks-H3
      ∙ cond-same _ _ _ _ (in_transfer-has_answer t stretch reads n from before m.transfer holds.transfer)
      (first_of-strobe_fall t n))

  -- H4 is broken on a line by the tests of its parts
  breaks-H4 : (l : ℕ) → breaks t stretch H4 (suc n) l ≡ (is_judged stretch (suc n) && has_line t.opening.slots l
      && (is_answer_line l && falls t l (suc n) && not (in_transfer t stretch (λ i. true) (suc n))))
  unfolding breaks is_broken
  breaks-H4 l = refl

  -- the machine's fault by H4 is the break of H4
  fault-H4 : option_map (break_of_fault (suc n) (time_at t (suc n)))
      (fault_if H4 (not (is_within within)) seen.answer_fall)
      ≡ rule_break t stretch (suc n) H4
  fault-H4 =
      rule_break-fault_if t n stretch from before H4 (not (is_within within)) seen.answer_fall
      (least-answer_rule t n stretch from before H4 (λ l. falls t l (suc n))
      (not (in_transfer t stretch (λ i. true) (suc n)))
      breaks-H4
      ∙ cond-same _ _ _ _ (ap not (in_transfer-tracked t stretch reads n from before m.transfer holds.transfer))
      (first_of-answer_fall t n))

  -- the transfer of i has an answer before n + 1, or is answered there by both lines
  abbrev twice_at : ℕ → Bool
  twice_at i = is_answered t stretch i (suc n) || (answers t stretch i (suc n) && falls t DTACK (suc n)
      && falls t BERR (suc n))

  -- H5 is broken on a line by the tests of its parts
  breaks-H5 : (l : ℕ) → breaks t stretch H5 (suc n) l ≡ (is_judged stretch (suc n) && has_line t.opening.slots l
      && (is_answer_line l && falls t l (suc n) && in_transfer t stretch twice_at (suc n)))
  unfolding breaks is_broken
  breaks-H5 l = refl

  -- n + 1 is in a transfer that has an answer before, or is answered there by both lines, exactly if the phase and the
  -- edges say so
  in_transfer-doubled : in_transfer t stretch twice_at (suc n) ≡ is_doubled within seen
  in_transfer-doubled =
      in_transfer-answered_twice t stretch reads n from before m.transfer holds.transfer
      ∙ same_both (falls t DTACK (suc n)) (falls t BERR (suc n)) (falls_between (old t n) (new t n) DTACK)
      (falls_between (old t n) (new t n) BERR) (falls-between t n DTACK) (falls-between t n BERR)
    where
      same_both : (a b c d : Bool) → a ≡ c → b ≡ d → (has_answer within || (is_unanswered within && (a && b)))
          ≡ (has_answer within || (is_unanswered within && (c && d)))
      same_both a b c d e f = rw (e, f) refl

  -- the machine's fault by H5 is the break of H5
  fault-H5 : option_map (break_of_fault (suc n) (time_at t (suc n)))
      (fault_if H5 (is_doubled within seen) seen.answer_fall)
      ≡ rule_break t stretch (suc n) H5
  fault-H5 =
      rule_break-fault_if t n stretch from before H5 (is_doubled within seen) seen.answer_fall
      (least-answer_rule t n stretch from before H5 (λ l. falls t l (suc n))
      (in_transfer t stretch twice_at (suc n)) breaks-H5
      ∙ cond-same _ _ _ _ in_transfer-doubled (first_of-answer_fall t n))

  -- an answer line rises though no strobe has risen since it fell
  abbrev held_at : ℕ → Bool
  held_at l = rises t l (suc n) && not (may_rise_at t stretch l n || strobe_rises t (suc n))

  -- H6 is broken on a line by the tests of its parts, with those on strobes since the fall of the line
  breaks-H6_plain : (l : ℕ) → breaks t stretch H6 (suc n) l ≡ (is_judged stretch (suc n) && has_line t.opening.slots l
      && (is_answer_line l && rises t l (suc n) && none (strobe_rises t) (last_before t stretch (falls t l) (suc n))
      (suc n + 1)))
  unfolding breaks is_broken
  breaks-H6_plain l = refl

  -- H6 is broken on an answer line exactly if the line rises though no strobe has risen since it fell
  breaks-H6 : (l : ℕ) → breaks t stretch H6 (suc n) l ≡ (is_judged stretch (suc n) && has_line t.opening.slots l
      && (is_answer_line l && held_at l && true))
  breaks-H6 l =
      breaks-H6_plain l
      ∙ ap (λ b. is_judged stretch (suc n) && has_line t.opening.slots l && b)
      (and_assoc (is_answer_line l) (rises t l (suc n)) (none (strobe_rises t)
      (last_before t stretch (falls t l) (suc n))
      (suc n + 1))
      ∙ ap (λ b. is_answer_line l && b) (rises-held t stretch l n from)
      ∙ and-true_last (is_answer_line l) (held_at l))

  -- an answer line rises too early exactly if it does by the edges and `was`, which says whether it may rise
  held_at-between : (l : ℕ) (was : Bool) → was ≡ may_rise_at t stretch l n → held_at l
      ≡ (rises_between (old t n) (new t n) l
      && not (may_rise was seen))
  held_at-between l was e = same_held (rises t l (suc n)) (may_rise_at t stretch l n) (strobe_rises t (suc n))
      (rises_between (old t n) (new t n) l) was (is_some seen.strobe_rise) (rises-between t n l) (sym e)
      (strobe_rises-between t n)
    where
      same_held : (a b c d e f : Bool) → a ≡ d → b ≡ e → c ≡ f → (a && not (b || c)) ≡ (d && not (e || f))
      same_held a b c d e f x y z = rw (x, y, z) refl

  -- the machine's fault by H6 is the break of H6
  fault-H6 : option_map (break_of_fault (suc n) (time_at t (suc n))) (fault_if H6 true (early_rise m seen))
      ≡ rule_break t stretch (suc n)
      H6
  fault-H6 =
      rule_break-fault_if t n stretch from before H6 true (early_rise m seen)
      (least-answer_rule t n stretch from before H6 held_at true breaks-H6 ∙ cond-same true true _ _ refl
      (first_of-same _ _ _ _ DTACK BERR (held_at-between DTACK m.dtack_may_rise holds.dtack)
      (held_at-between BERR m.berr_may_rise holds.berr)))

  -- H7 is broken on a line by the tests of its parts
  breaks-H7 : (l : ℕ) → breaks t stretch H7 (suc n) l ≡ (is_judged stretch (suc n) && has_line t.opening.slots l
      && ((l == AS) && rises t l (suc n) && in_transfer t stretch left_unanswered_at (suc n)))
  unfolding breaks is_broken
  breaks-H7 l = refl

  -- the machine's fault by H7 is the break of H7
  fault-H7 : option_map (break_of_fault (suc n) (time_at t (suc n)))
      (fault_if H7 (is_left_unanswered m.transfer seen && seen.shown.cycle_end)
      (Some AS)) ≡ rule_break t stretch (suc n) H7
  fault-H7 =
      rule_break-fault_if t n stretch from before H7 (is_left_unanswered m.transfer seen && seen.shown.cycle_end)
      (Some AS)
      (least-AS_rule t n stretch from before H7 (λ l. rises t l (suc n))
      (in_transfer t stretch left_unanswered_at (suc n))
      breaks-H7
      ∙ ap (λ b. cond b (Some AS) None) (swapped (rises t AS (suc n)) (in_transfer t stretch left_unanswered_at (suc n))
      (rises_between (old t n) (new t n) AS) (is_left_unanswered m.transfer seen)
      (rises-between t n AS) in_transfer-left_unanswered))
    where
      swapped : (a b c d : Bool) → a ≡ c → b ≡ d → (a && b) ≡ (d && c)
      swapped a b c d e f = rw (e, f) (and_comm c d)

  -- whether instant n + 1 is an answer, by the phase of the transfer and the edges
  pub is_answer-unanswered : is_answer t stretch (suc n) ≡ (is_unanswered within && is_some seen.answer_fall)
  is_answer-unanswered =
      is_answer-tracked t stretch reads n from before m.transfer holds.transfer
      ∙ ap (λ b. is_unanswered within && b) (first_of-is_some (falls_between (old t n) (new t n) DTACK)
      (falls_between (old t n) (new t n) BERR) DTACK BERR)

  -- H8 is broken on a line by the tests of its parts
  breaks-H8 : (l : ℕ) → breaks t stretch H8 (suc n) l ≡ (is_judged stretch (suc n) && has_line t.opening.slots l
      && (is_answer_line l && falls t l (suc n) && (is_answer t stretch (suc n) && not (near (low t AS) (suc n)))))
  unfolding breaks is_broken
  breaks-H8 l = ap (λ b. is_judged stretch (suc n) && has_line t.opening.slots l && b)
      (and_assoc (is_answer_line l && falls t l (suc n)) (is_answer t stretch (suc n)) (not (near (low t AS) (suc n))))

  -- the machine's fault by H8 is the break of H8
  fault-H8 : option_map (break_of_fault (suc n) (time_at t (suc n)))
      (fault_if H8 seen.unaddressed (answer_in within seen))
      ≡ rule_break t stretch (suc n) H8
  fault-H8 =
      rule_break-fault_if t n stretch from before H8 seen.unaddressed (answer_in within seen)
      (least-answer_rule t n stretch from before H8 (λ l. falls t l (suc n)) (is_answer t stretch (suc n)
      && not (near (low t AS) (suc n))) breaks-H8
      ∙ cond-same _ _ _ _ (and-same (is_answer t stretch (suc n)) (not (near (low t AS) (suc n))) (is_unanswered within
      && is_some seen.answer_fall) seen.unaddressed is_answer-unanswered (unaddressed-between t n))
      (first_of-answer_fall t n)
      ∙ cond-answer (is_unanswered within) seen.unaddressed seen.answer_fall)

  -- each fault is the break of its rule
  pub handshake_faults-are-breaks : AreBreaksOf (break_of_fault (suc n) (time_at t (suc n)))
      (rule_break t stretch (suc n))
      strobe_rules (strobe_faults m within seen)
  handshake_faults-are-breaks =
      (fault-H1, (fault-H2, (fault-H3, (fault-H4, (fault-H5, (fault-H6, (fault-H7, (fault-H8, tt))))))))
