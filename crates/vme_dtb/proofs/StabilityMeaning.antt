-- What the memory of the held lines (the state of the automaton) says of a judged instant, by the definitions of
-- transfers and cycles. It stays right, whichever rules are broken.
use Rattle.std.proofs.Common.{◌≡◌, ℕ, suc, ◌+◌, ◌<◌, ◌≤◌, Bool, true, false, ◌||◌, ◌&&◌, not, refl, sym, ◌∙◌, ap, arith}
use Rattle.std.proofs.Common.{cond}
use Rattle.vme_trace.specs.Edges.{answer_between, falls_between, rises_between, starts_between, strobe_low_in}
use Rattle.vme_trace.specs.Edges.{strobe_rises_between, strobes_high_in}
use Rattle.vme_trace.specs.Instants.{any, none}
use Rattle.std.proofs.Common.{inl, inr}
use Rattle.std.specs.Prelude.{None}
use Rattle.std.proofs.lemmas.Bool.{and_parts, or_parts, le-leb}
use Rattle.std.proofs.Math.Bool.{and-true, and_assoc}
use Rattle.vme_trace.specs.LineNumbers.{AS, DS0, DS1, WRITE}
use Rattle.vme_trace.specs.Levels.{Levels, level_at, is_low, is_high, is_known}
use Rattle.vme_trace.specs.Trace.{Trace, levels_at}
use Rattle.vme_trace.specs.Signals.{low, high, rises}
use Rattle.vme_trace.specs.Judged.{Stretch}
use Rattle.vme_trace.specs.Transfers.{strobe_rises, strobes_high, transfer_starts, is_answer}
use Rattle.vme_trace.specs.Verdict.{break_before}
use Rattle.vme_trace.specs.Cycles.{cycle_starts, cycle_runs}
use Rattle.vme_trace.specs.declared.level.Level.{Level}
use Rattle.vme_trace.specs.declared.level.Level.TheVariants.{Low, High, Unknown}
use Rattle.vme_trace.proofs.OpenTransfers.{ReadsStrobes}
use Rattle.vme_trace.proofs.Ranges.{any-step, clash, fails-any, next_or_within}
use Rattle.vme_monitor.specs.Tracked.{IsTransferPhase}
use Rattle.vme_monitor.specs.Tracking.{answered_by, is_unanswered, is_writing, tracked}
use Rattle.vme_monitor.specs.declared.tracking.TransferPhase.{TransferPhase}
use Rattle.vme_monitor.specs.declared.tracking.TransferPhase.TheVariants.{Closed, Reading, Writing, Answered}
use Rattle.vme_monitor.proofs.TrackedTransfers.{IsTransferPhase-start, IsTransferPhase-tracked, is_answer-tracked}
use Rattle.vme_dtb.specs.StabilityRules.{answers_in, awaits_answer, holds_direction as holds_direction_of}
use Rattle.vme_dtb.specs.StabilityRules.{keeps_address, keeps_direction, stability_begin, stability_rules, stepped}
use Rattle.vme_dtb.specs.declared.holding.Holding.{Holding}
use Rattle.vme_dtb.specs.HoldingNumbers.{has_risen, was_answered, writes_of}
use Rattle.vme_dtb.proofs.Progressing.{writes_of-by_strobes, not_risen-start, not_risen-next, is_answered_state}
use Rattle.vme_dtb.proofs.Progressing.{is_closed}
use Rattle.vme_dtb.proofs.Progressing.{has_risen-passed, was_answered-passed}
use Rattle.vme_dtb.proofs.Lasting.{none-next, none-empty, none-one, any-kept}
use Rattle.vme_dtb.proofs.StepFacts.{falls-between, is_judged-next, rises-between, transfer_starts-between}

-- whether the transfer that the step enters, or that was open, has had no answer
is_unanswered-entered : (p : TransferPhase) (h l w : Bool) → h ≡ is_closed p
    → is_unanswered (cond (h && l) (cond w Writing Reading)
    p) ≡ (not (is_answered_state p) && (not h || l))
is_unanswered-entered Closed h l w e = rw e (by_tests l w)
  where
    by_tests : (l w : Bool) → is_unanswered (cond l (cond w Writing Reading) Closed) ≡ l
    by_tests true true = refl
    by_tests true false = refl
    by_tests false w = refl
is_unanswered-entered Reading h l w e = rw e refl
is_unanswered-entered Writing h l w e = rw e refl
is_unanswered-entered Answered h l w e = rw e refl

-- whether the transfer in which the step ends has an answer, by the strobes, the answer and the phase before it
is_answered_state-next : (p : TransferPhase) (h l w k a : Bool) → h ≡ is_closed p → l ≡ not k → is_answered_state
    (cond k Closed (answered_by a (cond (h && l) (cond w Writing Reading) p))) ≡ (not k && (is_answered_state p || a))
is_answered_state-next p h l w true a e low = refl
is_answered_state-next Closed h l w false a e low = rw (e, low) (by_tests w a)
  where
    by_tests : (w a : Bool) → is_answered_state (answered_by a (cond w Writing Reading)) ≡ a
    by_tests true true = refl
    by_tests true false = refl
    by_tests false true = refl
    by_tests false false = refl
is_answered_state-next Reading h l w false true e low = rw e refl
is_answered_state-next Reading h l w false false e low = rw e refl
is_answered_state-next Writing h l w false true e low = rw e refl
is_answered_state-next Writing h l w false false e low = rw e refl
is_answered_state-next Answered h l w false true e low = rw e refl
is_answered_state-next Answered h l w false false e low = rw e refl

-- of two known levels, one is low exactly if not both are high
is_low-known_pair : (x y : Level) → is_known x ≡ true → is_known y ≡ true → (is_low x || is_low y)
    ≡ not (is_high x && is_high y)
is_low-known_pair Low y k j = refl
is_low-known_pair High Low k j = refl
is_low-known_pair High High k j = refl
is_low-known_pair High Unknown k j = absurd (cc)
is_low-known_pair Unknown y k j = absurd (cc)

-- high strobes don't rise
rises-none_of_high : (x y a b : Level) → (is_high x && is_high y) ≡ true
    → ((is_low x && is_high a) || (is_low y && is_high b))
    ≡ false
rises-none_of_high High High a b h = refl
rises-none_of_high High Low a b h = absurd (cc)
rises-none_of_high High Unknown a b h = absurd (cc)
rises-none_of_high Low y a b h = absurd (cc)
rises-none_of_high Unknown y a b h = absurd (cc)

-- a known level that doesn't rise was high before, if it is high now
is_high-before : (x y : Level) → is_known x ≡ true → (is_low x && is_high y) ≡ false → is_high y ≡ true → is_high x
    ≡ true
is_high-before High y k r h = refl
is_high-before Low y k r h = absurd (clash (is_high y) h r)
is_high-before Unknown y k r h = absurd (cc)

-- known strobes that don't rise, and are high, were high
pub strobes_high_in-before : (v w : Levels) → is_known (level_at v DS0) ≡ true → is_known (level_at v DS1) ≡ true
    → strobe_rises_between v w ≡ false → strobes_high_in w ≡ true → strobes_high_in v ≡ true
strobes_high_in-before v w first second still h =
    let rises = or_parts (rises_between v w DS0) (rises_between v w DS1) still in
    let highs = and_parts (is_high (level_at w DS0)) (is_high (level_at w DS1)) h in
    rw (
      is_high-before (level_at v DS0) (level_at w DS0) first rises.0 highs.0,
      is_high-before (level_at v DS1) (level_at w DS1)
          second rises.1 highs.1,
    ) refl

-- whether a transfer is open in which no strobe has risen, by the strobes before and after the step
direction-next_by_strobes : (h k l r s : Bool) → (h ≡ true → s ≡ false) → (h ≡ true → r ≡ false) → l ≡ not k
    → (r ≡ false → k ≡ true → h ≡ true)
    → (not k && not (not k && (s || r))) ≡ (((not h && not s) && not r) || (h && l))
direction-next_by_strobes true k l r s fresh still low back = rw (fresh refl, still refl, low) (by_test k)
  where
    by_test : (k : Bool) → (not k && not (not k && false)) ≡ not k
    by_test true = refl
    by_test false = refl
direction-next_by_strobes false true l true true fresh still low back = refl
direction-next_by_strobes false true l true false fresh still low back = refl
direction-next_by_strobes false true l false s fresh still low back = absurd (clash false (back refl refl) refl)
direction-next_by_strobes false false l true true fresh still low back = refl
direction-next_by_strobes false false l true false fresh still low back = refl
direction-next_by_strobes false false l false true fresh still low back = refl
direction-next_by_strobes false false l false false fresh still low back = refl

module _ (t : Trace) (stretch : Stretch) where
  -- a cycle that started at i runs at n, and has had no answer
  abbrev pub holds_address : ℕ → ℕ → Bool
  holds_address n i = cycle_starts t stretch i && cycle_runs t i n && none (is_answer t stretch) i (n + 1)

  -- a transfer started at i, and no strobe has risen since
  abbrev pub holds_direction : ℕ → ℕ → Bool
  holds_direction n i = transfer_starts t stretch i && none (strobe_rises t) (i + 1) (n + 1)

  -- the memory m is right of instant n, at which the phase of the transfer is `state`
  pub record Holds (n : ℕ) (m : Holding) : Type 0 where
    pub state : TransferPhase
    pub says : IsTransferPhase t stretch n state
    pub transfer : is_answered_state state ≡ was_answered m.transfer
    pub closed : strobes_high_in (levels_at t n) ≡ true → has_risen m.transfer ≡ false
    pub fresh : (i : ℕ) → i ≤ n → transfer_starts t stretch i ≡ true
        → ((r : ℕ) → i ≤ r → r ≤ n → strobes_high t r ≡ false)
        → none (strobe_rises t) (i + 1) (n + 1) ≡ not (has_risen m.transfer)
    pub directed : break_before t stretch stability_rules (suc n) ≡ None → strobes_high_in (levels_at t n) ≡ false
        → writes_of m.transfer (is_low (level_at (levels_at t n) WRITE)) ≡ is_writing state
    pub idle : is_low (level_at (levels_at t n) AS) ≡ false → m.cycle_answered ≡ false
    pub address : awaits_answer m (levels_at t n) ≡ any (holds_address n) (stretch.start + 1) (n + 1)
    pub direction : holds_direction_of m (levels_at t n) ≡ any (holds_direction n) (stretch.start + 1) (n + 1)

  -- at the start of a stretch nothing is held
  pub Holds-start : ReadsStrobes t stretch → is_low (level_at (levels_at t stretch.start) AS) ≡ false → (v : Levels)
      → Holds stretch.start (stability_begin v)
  unfolding high
  Holds-start reads off v =
      record {
        state = Closed;
        says = IsTransferPhase-start t stretch reads;
        transfer = refl;
        closed = λ h. refl;
        fresh = λ i a s low. absurd (clash (strobes_high t stretch.start) reads.opens (low_there i a low));
        directed = λ unbroken low. absurd (clash (strobes_high t stretch.start) reads.opens low);
        idle = λ h. refl;
        address = rw off (sym (fails-any (holds_address stretch.start) (stretch.start + 1) (stretch.start + 1)
            (λ i a b. absurd (omega arith))));
        direction = rw reads.opens (sym (fails-any (holds_direction stretch.start) (stretch.start + 1)
            (stretch.start + 1)
            (λ i a b. absurd (omega arith))));
      }
    where
      low_there : (i : ℕ) → i ≤ stretch.start → ((r : ℕ) → i ≤ r → r ≤ stretch.start → strobes_high t r ≡ false)
          → strobes_high t stretch.start ≡ false
      low_there i a low = low stretch.start a (omega arith)

  -- the levels before and after the step to n + 1
  module _ (reads : ReadsStrobes t stretch) (n : ℕ) (from : stretch.start ≤ n) (before : suc n < stretch.end) where
    -- the levels before the step to n + 1
    abbrev pub old : Levels
    old = levels_at t n

    -- the levels after the step to n + 1
    abbrev pub new : Levels
    new = levels_at t (suc n)

    -- a strobe rises at n + 1 exactly if one rises between the levels
    pub strobe_rises-between : strobe_rises t (suc n) ≡ strobe_rises_between old new
    strobe_rises-between = rw (rises-between t n DS0, rises-between t n DS1) refl

    -- a cycle starts at n + 1 exactly if AS* falls between the levels
    pub cycle_starts-between : cycle_starts t stretch (suc n) ≡ falls_between old new AS
    unfolding cycle_starts
    cycle_starts-between = rw (is_judged-next t n stretch from before, falls-between t n AS) refl

    -- both strobes are high exactly if no transfer is open
    pub strobes_high_in-is_closed : (p : TransferPhase) → IsTransferPhase t stretch n p → strobes_high_in old
        ≡ is_closed p
    unfolding high
    strobes_high_in-is_closed Closed says = says
    strobes_high_in-is_closed Reading says = says.1.still n says.1.within (omega arith)
    strobes_high_in-is_closed Writing says = says.1.still n says.1.within (omega arith)
    strobes_high_in-is_closed Answered says = says.2.still n says.2.within (omega arith)

    -- n + 1 is an answer exactly if it is one by a memory that is right of n
    pub is_answer-answers_in : (m : Holding) → Holds n m → is_answer t stretch (suc n) ≡ answers_in m old new
    is_answer-answers_in m h =
        is_answer-tracked t stretch reads n from before h.state h.says
        ∙ rw (
          is_unanswered-entered h.state (strobes_high_in old) (strobe_low_in new) (is_low (level_at new WRITE))
              (strobes_high_in-is_closed h.state h.says),
          h.transfer,
        ) refl

    -- a cycle that started up to n runs at n + 1 exactly if it runs at n and AS* doesn't rise
    cycle_runs-next : (i : ℕ) → i ≤ n → cycle_runs t i (suc n)
        ≡ (cycle_runs t i n && not (rises t AS (suc n)))
    unfolding cycle_runs
    cycle_runs-next i h = none-next (rises t AS) (i + 1) n (omega arith)

    -- a cycle runs at its start
    cycle_runs-start : cycle_runs t (suc n) (suc n) ≡ true
    unfolding cycle_runs
    cycle_runs-start = none-empty (rises t AS) (suc n + 1)

    -- the lines of a cycle are held at n + 1 if they were at n, AS* doesn't rise, and no answer comes
    pub holds_address-next : (i : ℕ) → stretch.start + 1 ≤ i → i ≤ n → holds_address (suc n) i
        ≡ (holds_address n i && (not (rises t AS (suc n)) && not (is_answer t stretch (suc n))))
    holds_address-next i a b = rw (cycle_runs-next i b, none-next (is_answer t stretch) i n (omega arith))
        (regroup (cycle_starts t stretch i) (cycle_runs t i n) (not (rises t AS (suc n)))
        (none (is_answer t stretch) i (n + 1)) (not (is_answer t stretch (suc n))))
      where
        regroup : (a b c d e : Bool) → (a && (b && c) && (d && e)) ≡ ((a && b && d) && (c && e))
        regroup false b c d e = refl
        regroup true false c d e = refl
        regroup true true true d e = refl
        regroup true true false true e = refl
        regroup true true false false e = refl

    -- a cycle that starts at n + 1 holds its lines there unless it is answered there
    holds_address-start : holds_address (suc n) (suc n)
        ≡ (falls_between old new AS && not (is_answer t stretch (suc n)))
    holds_address-start = rw (cycle_starts-between, cycle_runs-start, none-one (is_answer t stretch) (suc n))
        (no_test (falls_between old new AS) (not (is_answer t stretch (suc n))))
      where
        no_test : (a b : Bool) → (a && true && b) ≡ (a && b)
        no_test true b = refl
        no_test false b = refl

    -- a transfer that started up to n has had no rising strobe up to n + 1 exactly if it had none up to n and none
    -- rises
    pub holds_direction-next : (i : ℕ) → stretch.start + 1 ≤ i → i ≤ n → holds_direction (suc n) i
        ≡ (holds_direction n i && not (strobe_rises t (suc n)))
    holds_direction-next i a b = rw (none-next (strobe_rises t) (i + 1) n (omega arith)) (sym (and_assoc
        (transfer_starts t stretch i) (none (strobe_rises t) (i + 1) (n + 1)) (not (strobe_rises t (suc n)))))

    -- the transfer that starts at n + 1 has had no rising strobe
    holds_direction-start : holds_direction (suc n) (suc n) ≡ starts_between old new
    holds_direction-start = rw (
      transfer_starts-between t n stretch from before,
      none-empty (strobe_rises t) (suc n + 1),
    ) (and-true (starts_between old new))

    -- whether the lines that a cycle needs are still held at n + 1
    pub keeps_address-any : (m : Holding) → Holds n m → keeps_address m old new ≡ any (holds_address (suc n))
        (stretch.start + 1) (suc n)
    keeps_address-any m h =
        and_assoc (awaits_answer m old) (not (rises_between old new AS)) (not (answers_in m old new))
        ∙ sym (any-kept (holds_address n) (holds_address (suc n)) (not (rises t AS (suc n))
        && not (is_answer t stretch (suc n))) (stretch.start + 1) n (omega arith) holds_address-next
        ∙ rw (rises-between t n AS, is_answer-answers_in m h, ← h.address) refl)

    -- whether the direction is still held at n + 1
    pub keeps_direction-any : (m : Holding) → Holds n m → keeps_direction m old new ≡ any (holds_direction (suc n))
        (stretch.start + 1) (suc n)
    keeps_direction-any m h =
        sym (any-kept (holds_direction n) (holds_direction (suc n)) (not (strobe_rises t (suc n))) (stretch.start + 1) n
        (omega arith) holds_direction-next ∙ rw (strobe_rises-between, ← h.direction) refl)

    -- the lines of some cycle are held at n + 1 exactly if they are still held, or a cycle starts there without an
    -- answer
    holds_address-any_next : (m : Holding) → Holds n m
        → (keeps_address m old new || (falls_between old new AS && not (answers_in m old new)))
        ≡ any (holds_address (suc n)) (stretch.start + 1) (suc n + 1)
    holds_address-any_next m h =
        rw (keeps_address-any m h, ← is_answer-answers_in m h)
        (sym (any-step (holds_address (suc n)) (stretch.start + 1) (suc n)
        ∙ rw (le-leb (stretch.start + 1) (suc n) (omega arith), holds_address-start) refl))

    -- whether a cycle without an answer runs after the step follows from the known levels of AS* before and after it
    awaits_answer-by_levels : (x y : Level) (a u : Bool) → is_known x ≡ true → is_known y ≡ true
        → (is_low x ≡ false → a ≡ false)
        → (is_low y && not (is_low y && (a || u))) ≡ (((is_low x && not a) && not (is_low x && is_high y) && not u) ||
        ((is_high x && is_low y) && not u))
    awaits_answer-by_levels Low Low true u k j idle = refl
    awaits_answer-by_levels Low Low false true k j idle = refl
    awaits_answer-by_levels Low Low false false k j idle = refl
    awaits_answer-by_levels Low High true u k j idle = refl
    awaits_answer-by_levels Low High false u k j idle = refl
    awaits_answer-by_levels High Low true u k j idle = absurd (clash true refl (idle refl))
    awaits_answer-by_levels High Low false u k j idle = refl
    awaits_answer-by_levels High High a u k j idle = refl
    awaits_answer-by_levels Unknown y a u k j idle = absurd (cc)
    awaits_answer-by_levels Low Unknown a u k j idle = absurd (cc)
    awaits_answer-by_levels High Unknown a u k j idle = absurd (cc)

    -- the direction of some transfer is held at n + 1 exactly if it is still held, or a transfer starts there
    holds_direction-any_next : (m : Holding) → Holds n m → (keeps_direction m old new || starts_between old new)
        ≡ any (holds_direction (suc n)) (stretch.start + 1) (suc n + 1)
    holds_direction-any_next m h =
        rw (keeps_direction-any m h) (sym (any-step (holds_direction (suc n)) (stretch.start + 1) (suc n)
        ∙ rw (le-leb (stretch.start + 1) (suc n) (omega arith), holds_direction-start) refl))

    -- the transfer that is open after the step has an answer
    abbrev answered_now : Holding → Bool
    answered_now m = not (strobes_high_in new) && (was_answered m.transfer || answer_between old new)

    -- a strobe has risen in the transfer that is open after the step
    abbrev risen_now : Holding → Bool
    risen_now m = not (strobes_high_in new) && (has_risen m.transfer || strobe_rises_between old new)

    -- the transfer is a write that had no answer before the step
    abbrev writing_now : Holding → Bool
    writing_now m = writes_of m.transfer (is_low (level_at old WRITE))

    -- where a transfer starts at n + 1, both strobes are high at n
    strobes_high_in-start : transfer_starts t stretch (suc n) ≡ true → strobes_high_in old ≡ true
    strobes_high_in-start s = (and_parts (strobes_high_in old) (strobe_low_in new)
        (sym (transfer_starts-between t n stretch from before) ∙ s)).0

    -- whether no strobe has risen up to n + 1 in the transfer that is open
    none_rises-fresh : (m : Holding) → Holds n m → (i : ℕ) → i ≤ suc n → transfer_starts t stretch i ≡ true
        → ((r : ℕ) → i ≤ r → r ≤ suc n → strobes_high t r ≡ false) → none (strobe_rises t) (i + 1) (suc n + 1)
        ≡ not (risen_now m)
    unfolding high
    none_rises-fresh m h i a s low =
        elim (next_or_within i n a) [
          | inl e ↦
              rw e
              (none-empty (strobe_rises t) (suc n + 1)
              ∙ not_risen-start (strobes_high_in new) (has_risen m.transfer) (strobe_rises_between old new)
              (h.closed (strobes_high_in-start (rw e at s)))
              (rises-none_of_high (level_at old DS0) (level_at old DS1) (level_at new DS0) (level_at new DS1)
              (strobes_high_in-start (rw e at s))))
          | inr b ↦
              none-next (strobe_rises t) (i + 1) n (omega arith)
              ∙ rw (h.fresh i b s (λ r x y. low r x (omega arith)), strobe_rises-between)
              (not_risen-next (strobes_high_in new) (has_risen m.transfer) (strobe_rises_between old new)
              (low (suc n) a (omega arith)))
        ]

    -- the memory is right of n + 1, if the direction stays while it is held
    pub Holds-next : (break_before t stretch stability_rules (suc (suc n)) ≡ None
        → break_before t stretch stability_rules
        (suc n) ≡ None)
        → ((m : Holding) → Holds n m → break_before t stretch stability_rules (suc (suc n)) ≡ None
        → keeps_direction m old
        new ≡ true → is_low (level_at new WRITE) ≡ is_low (level_at old WRITE))
        → ((l : ℕ) → l < 3 → is_known (level_at old l) ≡ true) → ((l : ℕ) → l < 3 → is_known (level_at new l) ≡ true)
        → (m : Holding) → Holds n m → Holds (suc n) (stepped m old new)
    Holds-next earlier stays known_old known_new m h =
        let low_new = is_low-known_pair (level_at new DS0) (level_at new DS1) (known_new DS0 (omega arith))
        (known_new DS1 (omega arith)) in
        record {
          state = tracked h.state old new;
          says = IsTransferPhase-tracked t stretch reads n from before h.state h.says;
          transfer = is_answered_state-next h.state (strobes_high_in old) (strobe_low_in new)
              (is_low (level_at new WRITE))
              (strobes_high_in new) (answer_between old new) (strobes_high_in-is_closed h.state h.says) low_new
              ∙ rw h.transfer (sym (was_answered-passed (answered_now m) (risen_now m) (writing_now m)));
          closed = λ highs. has_risen-passed (answered_now m) (risen_now m) (writing_now m) ∙ rw highs refl;
          fresh = λ i a s low. none_rises-fresh m h i a s low
              ∙ ap not (sym (has_risen-passed (answered_now m) (risen_now m) (writing_now m)));
          directed = λ unbroken low.
              writes_of-by_strobes h.state m.transfer (strobes_high_in old) (strobe_low_in new) (strobes_high_in new)
              (answer_between old new) (strobe_rises_between old new)
              (is_low (level_at old WRITE)) (is_low (level_at new WRITE))
              (strobes_high_in-is_closed h.state h.says) low_new low
              h.transfer h.closed
              (rises-none_of_high (level_at old DS0) (level_at old DS1) (level_at new DS0) (level_at new DS1))
              (h.directed (earlier unbroken)) (stays m h unbroken);
          idle = λ off. rw off refl;
          address = awaits_answer-by_levels (level_at old AS) (level_at new AS) m.cycle_answered (answers_in m old new)
              (known_old AS (omega arith)) (known_new AS (omega arith)) h.idle ∙ holds_address-any_next m h;
          direction =
              rw (has_risen-passed (answered_now m) (risen_now m) (writing_now m))
              (direction-next_by_strobes (strobes_high_in old) (strobes_high_in new) (strobe_low_in new)
              (strobe_rises_between old new) (has_risen m.transfer) h.closed
              (rises-none_of_high (level_at old DS0) (level_at old DS1) (level_at new DS0) (level_at new DS1)) low_new
              (strobes_high_in-before old new (known_old DS0 (omega arith)) (known_old DS1 (omega arith)))
              ∙ holds_direction-any_next m h);
        }
