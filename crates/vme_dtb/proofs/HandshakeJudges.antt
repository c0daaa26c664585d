-- The machine of the handshake finds the first broken rule and shows what the definitions say, over each stretch and so
-- over whole recordings.
use Rattle.std.proofs.Common.{◌≡◌, ℕ, suc, ◌+◌, ◌<◌, ◌≤◌, Bool, true, false, ◌&&◌, not, refl, sym, ◌∙◌, ap, arith}
use Rattle.std.proofs.Common.{Option, Some, None, cond}
use Rattle.std.specs.Prelude.{option_map, is_some, slice_get, nat_lt}
use Rattle.std.proofs.Math.Bool.{and-false}
use Rattle.std.proofs.lemmas.Bool.{le-ltb}
use Rattle.vme_trace.specs.Edges.{falls_between, rises_between, starts_between, strobes_high_in}
use Rattle.vme_trace.specs.Instants.{least}
use Rattle.vme_trace.specs.LineNumbers.{line_count, AS, WRITE, is_answer_line}
use Rattle.vme_trace.specs.Lanes.{lanes_at}
use Rattle.vme_trace.specs.Levels.{level_at, is_low}
use Rattle.vme_trace.specs.Trace.{Trace, levels_at, time_at}
use Rattle.vme_trace.specs.Signals.{falls, rises, low, high}
use Rattle.vme_trace.specs.Judged.{Stretch, is_judged}
use Rattle.vme_trace.specs.Transfers.{strobes_high, transfer_starts, lasts, in_transfer, answers, is_answer, is_write}
use Rattle.vme_trace.specs.Transfers.{answers_write, data_at}
use Rattle.vme_trace.specs.Cycles.{cycle_starts}
use Rattle.vme_trace.specs.Verdict.{break_at, rule_break}
use Rattle.vme_trace.specs.declared.data.Lanes.{Lanes}
use Rattle.vme_trace.proofs.OpenTransfers.{suc-sub-one}
use Rattle.vme_trace.proofs.Ranges.{fails-any}
use Rattle.vme_monitor.specs.Along.{changes_of, next_at}
use Rattle.vme_monitor.specs.Run.{break_of_fault, machine_step, run_of, no_end_fault, no_start_marks, no_step_marks}
use Rattle.vme_monitor.specs.OverStretches.{observed, phase_step, opening_phase}
use Rattle.vme_monitor.specs.Tracked.{IsTransferPhase}
use Rattle.vme_monitor.specs.Tracking.{entered, is_unanswered, is_within, is_writing}
use Rattle.vme_monitor.specs.Whole.{FindsLeast, ShowsAll}
use Rattle.vme_monitor.specs.declared.mark.TransferAnswer.{TransferAnswer as Answer}
use Rattle.vme_monitor.specs.declared.mark.CycleStart.{CycleStart}
use Rattle.vme_monitor.specs.declared.mark.Next.{Next}
use Rattle.vme_monitor.specs.declared.tracking.TransferPhase.{TransferPhase}
use Rattle.vme_monitor.specs.declared.tracking.TransferPhase.TheVariants.{Closed, Reading, Writing, Answered}
use Rattle.vme_monitor.proofs.LeastLines.{least_answer}
use Rattle.vme_monitor.proofs.InsideRules.{FindsLeast-inside, ShowsAll-inside}
use Rattle.vme_monitor.proofs.StretchFacts.{IsStretch}
use Rattle.vme_dtb.specs.Edge.{cycle_start_of, edges_between}
use Rattle.vme_dtb.specs.Machine.{answer_in, answered_in, cycle_faults, cycle_rules, dtb_begin, dtb_next}
use Rattle.vme_dtb.specs.Machine.{dtb_observation, dtb_step, fault_in, handshake_rules, strobe_faults, strobe_rules}
use Rattle.vme_dtb.specs.declared.cycle.CyclePhase.{CyclePhase}
use Rattle.vme_dtb.specs.CycleState.{cycle_entered}
use Rattle.vme_dtb.specs.Shown.{answer_line, answered, closes, handshake_shown}
use Rattle.vme_dtb.specs.declared.edges.Edges.{Edges}
use Rattle.vme_dtb.specs.declared.memory.HandshakeMemory.{HandshakeMemory}
use Rattle.vme_dtb.proofs.CycleBreaks.{cycle_starts-between, cycle_faults-are-breaks, answers_write-is_writing}
use Rattle.vme_dtb.proofs.Faults.{first_of_faults-both}
use Rattle.vme_dtb.proofs.HandshakeBreaks.{is_answer-unanswered, handshake_faults-are-breaks}
use Rattle.vme_dtb.proofs.HandshakeMeaning.{Holds}
use Rattle.vme_dtb.proofs.HandshakeInstants.{Holds-at, memory_at}
use Rattle.vme_dtb.proofs.OpenState.{in_transfer-is_within}
use Rattle.vme_dtb.proofs.StepFacts.{old, new, first_of-answer_fall, is_judged-next, rises-between, cond-same}
use Rattle.vme_dtb.proofs.StepFacts.{transfer_starts-between}
use Rattle.vme_dtb.proofs.StillSteps.{machine_step-dtb_next}

-- the result is o or none, so the test of whether there is o can be left out
cond-answer_line : (u : Bool) (o : Option ℕ) → cond (u && is_some o) o None ≡ cond u o None
cond-answer_line true None = refl
cond-answer_line true (Some l) = refl
cond-answer_line false o = refl

-- the answer by the line o, if there is one, with the data d
abbrev answer_on : Option Lanes → Option ℕ → Option Answer
answer_on d o = option_map (λ l. record { line = l; lanes = d }) o

-- the data of an answer don't depend on whether the test of a write also asks for an answer line that falls
answer_by_write : (e : TransferPhase) (o : Option ℕ) (d : Lanes)
    → answer_on (cond (is_writing e && is_some o) (Some d) None) (cond (is_unanswered e) o None)
    ≡ answer_on (cond (is_writing e) (Some d) None) (cond (is_unanswered e) o None)
answer_by_write Closed o d = refl
answer_by_write Reading o d = refl
answer_by_write Writing None d = refl
answer_by_write Writing (Some l) d = refl
answer_by_write Answered o d = refl

module _ (t : Trace) (stretch : Stretch) (facts : IsStretch t stretch) (n : ℕ) (from : stretch.start ≤ n)
    (before : suc n < stretch.end) (m : HandshakeMemory) (holds : Holds t stretch n m) where
  -- the edges of the step from n to n + 1
  abbrev seen : Edges
  seen = edges_between (old t n) (new t n)

  -- the phase of the transfer in which n + 1 is, before an answer counts
  abbrev within : TransferPhase
  within = entered m.transfer (old t n) (new t n)

  -- the phase of the cycle in which n + 1 is
  abbrev here : CyclePhase
  here = cycle_entered m.cycle seen.shown.cycle

  -- the machine's fault at instant n + 1 is the first broken rule
  break_at-fault_in : option_map (break_of_fault (suc n) (time_at t (suc n))) (fault_in m (old t n) (new t n) seen)
      ≡ break_at t stretch handshake_rules (suc n)
  unfolding break_at
  break_at-fault_in =
      first_of_faults-both (break_of_fault (suc n) (time_at t (suc n)))
      (rule_break t stretch (suc n)) strobe_rules cycle_rules
      (strobe_faults m within seen) (cycle_faults here (is_writing within) (answer_in within seen))
      (handshake_faults-are-breaks t stretch facts.reads n from before m holds)
      (cycle_faults-are-breaks t stretch facts.reads n from before m holds)

  -- the fault of the machine's step is the first broken rule
  pub dtb_inside : option_map (break_of_fault (suc n) (time_at t (suc n)))
      (next_at (machine_step dtb_observation dtb_step) t m n).fault
      ≡ break_at t stretch handshake_rules (suc n)
  dtb_inside = ap (λ (x : Next HandshakeMemory). option_map (break_of_fault (suc n) (time_at t (suc n))) x.fault)
      (machine_step-dtb_next t stretch n m holds (changes_of (slice_get t.steps n))) ∙ break_at-fault_in

  -- the least answer line that falls at n + 1 is that of the edges
  least-answer_fall : least (λ l. is_answer_line l && falls t l (suc n)) 0 line_count ≡ seen.answer_fall
  least-answer_fall = least_answer (λ l. is_answer_line l && falls t l (suc n)) (λ l h. rw h refl)
      ∙ first_of-answer_fall t n

  -- the line that answers a transfer at n + 1 is that of the phase and the edges
  answer_line-answer_in : answer_line t stretch (suc n) ≡ answer_in within seen
  unfolding answer_line
  answer_line-answer_in =
      cond-same (is_answer t stretch (suc n)) (is_unanswered within && is_some seen.answer_fall)
      (least (λ l. is_answer_line l && falls t l (suc n)) 0 line_count) seen.answer_fall
      (is_answer-unanswered t stretch facts.reads n from before m holds) least-answer_fall
      ∙ cond-answer_line (is_unanswered within) seen.answer_fall

  -- the data of a transfer at n + 1 is that after the step if a transfer starts there, else that before it
  data_at-lanes_at : data_at t stretch (suc n) ≡ lanes_at
      (cond (starts_between (old t n) (new t n)) (new t n) (old t n))
  unfolding data_at
  data_at-lanes_at = rw (transfer_starts-between t n stretch from before, suc-sub-one n)
      (by_start (starts_between (old t n) (new t n)))
    where
      by_start : (b : Bool) → lanes_at (levels_at t (cond b (suc n) n)) ≡ lanes_at (cond b (new t n) (old t n))
      by_start true = refl
      by_start false = refl

  -- the answer at n + 1 is that of the phase and the edges
  answered-answered_in : answered t stretch (suc n) ≡ answered_in within (old t n) (new t n) seen
  unfolding answered
  answered-answered_in =
      same_answer_on (answers_write t stretch (suc n)) (is_writing within && is_some seen.answer_fall)
      (data_at t stretch (suc n)) (lanes_at (cond (starts_between (old t n) (new t n)) (new t n) (old t n)))
      (answer_line t stretch (suc n)) (answer_in within seen)
      (answers_write-is_writing t stretch facts.reads n from before m holds) data_at-lanes_at answer_line-answer_in
      ∙ answer_by_write within seen.answer_fall
      (lanes_at (cond (starts_between (old t n) (new t n)) (new t n) (old t n)))
    where
      same_answer_on : (a b : Bool) (d e : Lanes) (o q : Option ℕ) → a ≡ b → d ≡ e → o ≡ q
          → answer_on (cond a (Some d) None) o ≡ answer_on (cond b (Some e) None) q
      same_answer_on a b d e o q x y z = rw (x, y, z) refl

  -- a phase that is right of n has a transfer exactly if the strobes aren't both high
  is_within-not_high : (p : TransferPhase) → IsTransferPhase t stretch n p → is_within p ≡ not (strobes_high t n)
  is_within-not_high Closed h = rw h refl
  is_within-not_high Reading o = rw (o.1.still n o.1.within (omega arith)) refl
  is_within-not_high Writing o = rw (o.1.still n o.1.within (omega arith)) refl
  is_within-not_high Answered o = rw (o.2.still n o.2.within (omega arith)) refl

  -- a transfer closes at n + 1 exactly if both strobes are high there, and weren't
  closes-between : closes t stretch (suc n) ≡ (strobes_high_in (new t n) && not (strobes_high_in (old t n)))
  unfolding closes high
  closes-between = ap (λ b. strobes_high t (suc n) && b)
      (in_transfer-is_within t stretch facts.reads n from before m.transfer
      holds.transfer ∙ is_within-not_high m.transfer holds.transfer)

  -- AS* rises at the judged instant n + 1 exactly if it rises between the levels
  cycle_end-between : (is_judged stretch (suc n) && rises t AS (suc n)) ≡ rises_between (old t n) (new t n) AS
  cycle_end-between = rw (is_judged-next t n stretch from before, rises-between t n AS) refl

  -- the transfer that starts at n + 1 is the one by the levels
  transfer-between : cond (transfer_starts t stretch (suc n)) (Some (is_write t stretch (suc n))) None
      ≡ cond (starts_between (old t n) (new t n)) (Some (is_low (level_at (new t n) WRITE))) None
  unfolding is_write low
  transfer-between = ap (λ b. cond b (Some (is_low (level_at (new t n) WRITE))) None)
      (transfer_starts-between t n stretch from before)

  -- the cycle that starts at n + 1 is the one by the levels
  cycle-between : cond (cycle_starts t stretch (suc n)) (Some (cycle_start_of (new t n))) None
      ≡ cond (falls_between (old t n) (new t n) AS) (Some (cycle_start_of (new t n))) None
  cycle-between = ap (λ b. cond b (Some (cycle_start_of (new t n))) None)
      (cycle_starts-between t stretch facts.reads n from before m
      holds)

  -- marks of a step with equal parts are equal
  step_marks-same : (a b : Option CycleStart) (c d : Bool) (e f : Option Bool) (g h : Option Answer) (i j : Bool) → a
      ≡ b → c
      ≡ d → e ≡ f → g ≡ h → i ≡ j
      → record no_step_marks { cycle = a; cycle_end = c; transfer = e; answer = g; close = i }
      ≡ record no_step_marks { cycle = b; cycle_end = d; transfer = f; answer = h; close = j }
  step_marks-same a b c d e f g h i j x y z u v = rw (x, y, z, u, v) refl

  -- what the machine shows at n + 1 is what the definitions say
  shown-handshake : (dtb_next m (old t n) (new t n) seen).shown ≡ handshake_shown t stretch (suc n)
  shown-handshake = step_marks-same _ _ _ _ _ _ _ _ _ _ (sym cycle-between) (sym cycle_end-between)
      (sym transfer-between) (sym answered-answered_in)
      (sym closes-between)

  -- what the machine's step shows is what the definitions say
  pub dtb_kinds : (next_at (machine_step dtb_observation dtb_step) t m n).shown ≡ handshake_shown t stretch (suc n)
  dtb_kinds = ap (λ (x : Next HandshakeMemory). x.shown)
      (machine_step-dtb_next t stretch n m holds (changes_of (slice_get t.steps n))) ∙ shown-handshake

module _ (t : Trace) (stretch : Stretch) where
  -- the start of a stretch isn't judged
  not_judged-start : is_judged stretch stretch.start ≡ false
  not_judged-start = rw (le-ltb stretch.start stretch.start (omega arith)) refl

  -- the start of a stretch is in no transfer
  in_transfer-start : (p : ℕ → Bool) → in_transfer t stretch p stretch.start ≡ false
  unfolding in_transfer
  in_transfer-start p = fails-any (λ i. transfer_starts t stretch i && lasts t stretch i stretch.start && p i)
      (stretch.start + 1)
      (stretch.start + 1) (λ i a b. absurd (omega arith))

  -- nothing is shown at the start of a stretch
  handshake_shown-start : no_step_marks ≡ handshake_shown t stretch stretch.start
  unfolding cycle_starts transfer_starts answered answer_line is_answer closes
  handshake_shown-start = rw (
    not_judged-start,
    in_transfer-start (λ i. answers t stretch i stretch.start),
    in_transfer-start (λ i. nat_lt i stretch.start),
    and-false (strobes_high t stretch.start),
  ) refl

-- the machine of the handshake finds the least break of its rules
pub dtb_first_break : FindsLeast
    (run_of (machine_step (observed dtb_observation) (phase_step dtb_begin no_start_marks no_step_marks (λ l. None)
    dtb_step))) (opening_phase dtb_begin)
    handshake_rules
dtb_first_break =
    FindsLeast-inside dtb_begin no_start_marks dtb_observation dtb_step handshake_rules refl
    (λ t stretch ok few facts n from before within unbroken. dtb_inside t stretch facts n from before
    (memory_at t stretch facts n) (Holds-at t stretch facts n from (omega (arith, before))))

-- the machine of the handshake shows the cycles and transfers of a recording
pub dtb_marks : ShowsAll
    (run_of (machine_step (observed dtb_observation) (phase_step dtb_begin no_start_marks no_step_marks no_end_fault
    dtb_step))) (opening_phase dtb_begin) no_step_marks handshake_shown
dtb_marks =
    ShowsAll-inside dtb_begin no_start_marks dtb_observation dtb_step no_end_fault handshake_shown
    (λ t stretch ok few facts. record {
      at_start = handshake_shown-start t stretch;
      inside = λ n from before within. dtb_kinds t stretch facts n from before (memory_at t stretch facts n)
          (Holds-at t stretch facts n from (omega (arith, before)));
    })
