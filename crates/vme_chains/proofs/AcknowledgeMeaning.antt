-- What the memory of the acknowledge monitor (the state of its automaton) means at an instant, and that a step keeps it
-- right.
use Rattle.std.proofs.Common.{◌≡◌, ℕ, suc, ◌+◌, ◌<◌, ◌≤◌, Bool, true, false, ◌||◌, ◌&&◌, not, refl, sym, ◌∙◌, ap}
use Rattle.std.proofs.Common.{arith, cond, lit<}
use Rattle.std.specs.Prelude.{Some, nat_le}
use Rattle.std.proofs.lemmas.Bool.Decides.{nat_tests}
use Rattle.std.proofs.lemmas.Bool.{not-false, not-true, or_parts}
use Rattle.vme_trace.specs.Edges.{answer_between, falls_between, strobe_low_in, strobes_high_in}
use Rattle.vme_trace.specs.Instants.{any, greatest}
use Rattle.vme_trace.specs.LineNumbers.{line_count, AS, DTACK, BERR, WRITE}
use Rattle.vme_trace.specs.Levels.{Levels, level_at, is_low, is_high, is_known, is_idle, is_idle_on}
use Rattle.vme_trace.specs.Trace.{Trace, levels_at}
use Rattle.vme_trace.specs.Signals.{low, high, falls}
use Rattle.vme_trace.specs.Judged.{Stretch}
use Rattle.vme_trace.specs.Transfers.{strobes_high, is_answer}
use Rattle.vme_trace.specs.Cycles.{cycle_starts, cycle_of, in_cycle}
use Rattle.vme_trace.specs.declared.level.Level.{Level}
use Rattle.vme_trace.specs.declared.level.Level.TheVariants.{Low, High, Unknown}
use Rattle.vme_trace.proofs.Changing.{high_not_low}
use Rattle.vme_trace.proofs.Ranges.{any-fails, clash, fails-any, greatest-step, greatest-below, any-suc}
use Rattle.vme_trace.proofs.OpenTransfers.{is_judged-holds, suc-sub-one, noted_while_low-same}
use Rattle.vme_monitor.specs.Tracked.{IsTransferPhase}
use Rattle.vme_monitor.specs.Tracking.{answered_by, entered, is_unanswered}
use Rattle.vme_monitor.specs.declared.tracking.TransferPhase.{TransferPhase}
use Rattle.vme_monitor.specs.declared.tracking.TransferPhase.TheVariants.{Closed, Reading, Writing, Answered}
use Rattle.vme_monitor.proofs.StretchFacts.{IsStretch}
use Rattle.vme_monitor.proofs.TrackedTransfers.{IsTransferPhase-start, IsTransferPhase-tracked, is_answer-tracked}
use Rattle.vme_chains.specs.AcknowledgeRules.{acknowledge_begin, answered_by_dtack_after, changes_memory}
use Rattle.vme_chains.specs.AcknowledgeRules.{changes_strobes}
use Rattle.vme_chains.specs.AcknowledgeRules.{is_answered_by_dtack, memory_after}
use Rattle.vme_chains.specs.declared.acknowledge.AcknowledgeMemory.{AcknowledgeMemory}

module _ (t : Trace) (stretch : Stretch) where
  -- a transfer is answered by DTACK* at r
  abbrev pub dtack_answers : ℕ → Bool
  dtack_answers r = is_answer t stretch r && falls t DTACK r

  -- the cycle of instant n starts at `start`, and `answered` says whether DTACK* answered a transfer of it up to n
  pub record HasOpenCycle (n : ℕ) (answered : Bool) : Type 0 where
    pub start : ℕ
    pub last : cycle_of t stretch n ≡ Some start
    pub reply : any dtack_answers start (suc n) ≡ answered

  -- the memory m is right of instant n
  pub record Holds (n : ℕ) (m : AcknowledgeMemory) : Type 0 where
    pub transfer : IsTransferPhase t stretch n m.transfer
    pub idle : low t AS n ≡ false → m.answered_by_dtack ≡ false
    pub cycle : low t AS n ≡ true → HasOpenCycle n m.answered_by_dtack

  -- the memory says whether DTACK* answered a transfer of the cycle of n up to n
  pub in_cycle-answered_by_dtack : (n : ℕ) (m : AcknowledgeMemory) → Holds n m → low t AS n ≡ true → in_cycle t stretch
      (λ i. any dtack_answers i (suc n)) n ≡ m.answered_by_dtack
  unfolding in_cycle
  in_cycle-answered_by_dtack n m h on = let o = h.cycle on in rw (o.last) o.reply

  -- the cycle of n + 1 is the one that starts there, if one does, else that of n
  cycle_of-next : (n : ℕ) → cycle_of t stretch (suc n) ≡ cond (nat_le (stretch.start + 1) (suc n)
      && cycle_starts t stretch
      (suc n)) (Some (suc n)) (cycle_of t stretch n)
  unfolding cycle_of
  cycle_of-next n =
      greatest-step (cycle_starts t stretch) (stretch.start + 1) (suc n)
      ∙ ap (cond (nat_le (stretch.start + 1) (suc n) && cycle_starts t stretch (suc n)) (Some (suc n)))
      (ap (greatest (cycle_starts t stretch) (stretch.start + 1)) (more n))
    where
      more : (n : ℕ) → suc n ≡ n + 1
      more n = omega arith

  -- the cycle of n starts at n or before
  cycle_of-within : (n i : ℕ) → cycle_of t stretch n ≡ Some i → i < n + 1
  unfolding cycle_of
  cycle_of-within n i e = greatest-below (cycle_starts t stretch) (stretch.start + 1) (n + 1) i e

  module _ (facts : IsStretch t stretch) where
    -- the address strobe is high at the start of the stretch
    is_high-as_at_start : is_high (level_at (levels_at t stretch.start) AS) ≡ true
    unfolding is_idle
    is_high-as_at_start = not-false _ (any-fails (λ k. not (is_idle_on (levels_at t stretch.start) k)) 0 line_count AS
        (not-true _ facts.idle) (omega arith) (lit< tt))

    -- the memory is right of the start of a stretch, at which no transfer is open
    pub Holds-start : Holds stretch.start (acknowledge_begin (levels_at t stretch.start))
    unfolding low
    Holds-start = record {
      transfer = IsTransferPhase-start t stretch facts.reads;
      idle = λ off. refl;
      cycle = λ on. absurd
          (clash (is_low (level_at (levels_at t stretch.start) AS)) on
          (high_not_low (level_at (levels_at t stretch.start) AS) is_high-as_at_start));
    }

    -- the step to n + 1
    module _ (n : ℕ) (from : stretch.start ≤ n) (before : suc n < stretch.end) where
      -- the levels before the step
      abbrev pub old : Levels
      old = levels_at t n

      -- the levels after the step
      abbrev pub new : Levels
      new = levels_at t (suc n)

      -- a line falls at n + 1 just if it falls between the levels
      falls-next : (l : ℕ) → falls t l (suc n) ≡ falls_between old new l
      unfolding falls high low
      falls-next l = rw (suc-sub-one n) refl

      -- DTACK answers a transfer at n + 1 just if the phase of the transfer and the levels say so
      dtack_answers-next : (m : TransferPhase) → IsTransferPhase t stretch n m → dtack_answers (suc n)
          ≡ is_answered_by_dtack m old
          new
      dtack_answers-next m is_phase =
          rw (is_answer-tracked t stretch facts.reads n from before m is_phase, falls-next DTACK)
          (by_tests (is_unanswered (entered m old new)) (falls_between old new DTACK) (falls_between old new BERR))
        where
          by_tests : (u d b : Bool) → ((u && (d || b)) && d) ≡ (u && d)
          by_tests true true b = refl
          by_tests true false true = refl
          by_tests true false false = refl
          by_tests false d b = refl

      -- a cycle starts at n + 1 just if the address strobe falls
      cycle_starts-next : cycle_starts t stretch (suc n) ≡ falls_between old new AS
      unfolding cycle_starts
      cycle_starts-next = rw (is_judged-holds stretch (suc n) (omega arith) before, falls-next AS) refl

      -- n + 1 is after the start of the stretch
      nat_le-next : nat_le (stretch.start + 1) (suc n) ≡ true
      nat_le-next = grind (arith, nat_tests)

      -- the cycle of n + 1 is the one that starts there, if the address strobe falls, else that of n
      cycle_of-falls : cycle_of t stretch (suc n)
          ≡ cond (falls_between old new AS) (Some (suc n)) (cycle_of t stretch n)
      cycle_of-falls = cycle_of-next n ∙ rw (nat_le-next, cycle_starts-next) refl

      -- if the address strobe is low at n and at n + 1, the cycle of n is that of n + 1 too, and the memory says
      -- whether DTACK answered a transfer of it
      HasOpenCycle-goes_on : (m : AcknowledgeMemory) → Holds n m → falls_between old new AS ≡ false → low t AS n ≡ true
          → is_low (level_at new AS) ≡ true → HasOpenCycle (suc n) (answered_by_dtack_after m old new)
      HasOpenCycle-goes_on m h no_fall on stays =
          let o = h.cycle on in
          record {
            start = o.start;
            last = cycle_of-falls ∙ rw no_fall o.last;
            reply =
                any-suc dtack_answers o.start (suc n)
                ∙ rw (
                  o.reply,
                  within o.start n (cycle_of-within n o.start o.last),
                  dtack_answers-next m.transfer h.transfer,
                  stays,
                ) refl;
          }
        where
          within : (i n : ℕ) → i < n + 1 → nat_le i (suc n) ≡ true
          within i n h = grind (arith, nat_tests)

      -- if the address strobe falls, the cycle of n + 1 starts there, and the memory says whether DTACK answered a
      -- transfer of it
      HasOpenCycle-starts : (m : AcknowledgeMemory) → IsTransferPhase t stretch n m.transfer → m.answered_by_dtack
          ≡ false
          → falls_between old
          new AS ≡ true → is_low (level_at new AS) ≡ true → HasOpenCycle (suc n) (answered_by_dtack_after m old new)
      HasOpenCycle-starts m is_phase fresh fall on =
          let empty : any dtack_answers (suc n) (suc n) ≡ false = fails-any dtack_answers (suc n) (suc n)
          (λ i a b. absurd (omega arith)) in
          record {
            start = suc n;
            last = cycle_of-falls ∙ rw fall refl;
            reply =
                any-suc dtack_answers (suc n) (suc n)
                ∙ rw (empty, itself (suc n), dtack_answers-next m.transfer is_phase, fresh, on) refl;
          }
        where
          itself : (i : ℕ) → nat_le i i ≡ true
          itself i = grind (arith, nat_tests)

      -- a known level that isn't low, and is low after the step, falls
      falls-known_not_low : (x y : Level) → is_known x ≡ true → is_low x ≡ false → is_low y ≡ true
          → (is_high x && is_low y)
          ≡ true
      falls-known_not_low High y h k e = e
      falls-known_not_low Low y h k e = absurd (cc)
      falls-known_not_low Unknown y h k e = absurd (cc)

      -- a low level doesn't fall
      falls-not_from_low : (x y : Level) → is_low x ≡ true → (is_high x && is_low y) ≡ false
      falls-not_from_low Low y h = refl
      falls-not_from_low High y h = absurd (cc)
      falls-not_from_low Unknown y h = absurd (cc)

      -- the address strobe is known before the step
      is_known-as : is_known (level_at old AS) ≡ true
      is_known-as = facts.known n AS from (omega arith) (lit< tt) refl

      -- if the address strobe is low at n + 1, the cycle there is open, and the memory says whether DTACK answered a
      -- transfer of it
      HasOpenCycle-next : (m : AcknowledgeMemory) → Holds n m → low t AS (suc n) ≡ true
          → HasOpenCycle (suc n) (answered_by_dtack_after m old new)
      unfolding low
      HasOpenCycle-next m h on = by_level (is_low (level_at old AS)) refl
        where
          by_level : (b : Bool) → is_low (level_at old AS) ≡ b → HasOpenCycle (suc n)
              (answered_by_dtack_after m old new)
          by_level true e = HasOpenCycle-goes_on m h (falls-not_from_low (level_at old AS) (level_at new AS) e) e on
          by_level false e =
              HasOpenCycle-starts m h.transfer (h.idle e) (falls-known_not_low (level_at old AS) (level_at new AS)
              is_known-as
              e on) on

      -- if the address strobe isn't low at n + 1, the memory says that DTACK answered none
      answered_by_dtack-idle : (m : AcknowledgeMemory) → low t AS (suc n) ≡ false → answered_by_dtack_after m old new
          ≡ false
      unfolding low
      answered_by_dtack-idle m off = rw off refl

      -- if the memory is right of n, the memory after the step is right of n + 1
      pub Holds-next : (m : AcknowledgeMemory) → Holds n m → Holds (suc n) (memory_after m old new)
      Holds-next m h = record {
        transfer = IsTransferPhase-tracked t stretch facts.reads n from before m.transfer h.transfer;
        idle
            = answered_by_dtack-idle m;
        cycle = HasOpenCycle-next m h;
      }

      -- if both strobes are high at n, no transfer is open
      transfer-closed : (p : TransferPhase) → IsTransferPhase t stretch n p → strobes_high_in old ≡ true → p ≡ Closed
      unfolding high
      transfer-closed Closed is_phase h = refl
      transfer-closed Reading is_phase h = absurd (clash (strobes_high t n) h
          (is_phase.1.still n is_phase.1.within (omega arith)))
      transfer-closed Writing is_phase h = absurd (clash (strobes_high t n) h
          (is_phase.1.still n is_phase.1.within (omega arith)))
      transfer-closed Answered is_phase h = absurd (clash (strobes_high t n) h
          (is_phase.2.still n is_phase.2.within (omega arith)))

      -- where no transfer starts, closes or is answered, the phase of the transfer stays
      tracked-unchanged : (p q : TransferPhase) (b l h a : Bool) → (b ≡ true → p ≡ Closed) → cond b l h ≡ false → a
          ≡ false
          → cond h Closed (answered_by a (cond (b && l) q p)) ≡ p
      tracked-unchanged p q true l h a closed still none = let off : l ≡ false = still in
          rw (off, none) (either h (closed refl))
        where
          either : (h : Bool) → p ≡ Closed → cond h Closed p ≡ p
          either true e = sym e
          either false e = refl
      tracked-unchanged p q false l h a closed still none = let off : h ≡ false = still in rw (off, none) refl

      -- if `changes_memory` is false, the memory stays
      pub memory_after-unchanged : (m : AcknowledgeMemory) → Holds n m → changes_memory old new ≡ false
          → memory_after m old new
          ≡ m
      unfolding low
      memory_after-unchanged m h still =
          let address = or_parts (changes_strobes old new || answer_between old new) (is_low (level_at old AS)
          && is_high (level_at new AS)) still in
          let answer = or_parts (changes_strobes old new) (answer_between old new) address.0 in
          let done = or_parts (falls_between old new DTACK) (falls_between old new BERR) answer.1 in
          rw (
            tracked-unchanged m.transfer (cond (is_low (level_at new WRITE)) Writing Reading) (strobes_high_in old)
                (strobe_low_in new) (strobes_high_in new) (answer_between old new)
                (transfer-closed m.transfer h.transfer)
                answer.0 answer.1,
            done.0,
            noted_while_low-same (level_at old AS) (level_at new AS) m.answered_by_dtack
                (is_unanswered (entered m.transfer old new)) (facts.known (suc n) AS (omega arith) before (lit< tt)
                refl)
                h.idle address.1,
          )
          refl
