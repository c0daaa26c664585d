-- The fields of the state as a cycle or a transfer starts, and one instant later, and what rules ask of them.
use Rattle.std.proofs.Common.{◌≡◌, ℕ, ◌+◌, ◌-◌, ◌≤◌, ◌<◌, ◌&&◌, ◌||◌, Bool, true, false, refl, sym, ◌∙◌, ap, arith, inl}
use Rattle.std.proofs.Common.{inr, ◌⊎◌, ◌∷◌, ◌++◌, [], not, add-one, List, subst, zero, suc, cond}
use Rattle.std.specs.Prelude.{Some, nat_le, if◌then◌else◌, nat_lt, unwrap_or, None}
use Rattle.std.proofs.Math.Bool.{beq, and-false, and-true, and_assoc, or-true}
use Rattle.std.proofs.lemmas.Bool.Decides.{nat_tests}
use Rattle.std.specs.Option.{option_map_or}
use Rattle.std.proofs.lemmas.Bool.{le-leb, ltb-true, ltb-false, and_parts, and_from, not-false, not-true, or_parts}
use Rattle.std.proofs.lemmas.Bool.{cases_lt}
use Rattle.vme_trace.proofs.OpenTransfers.{in_transfer-is, ReadsStrobes, both_high-none_low}
use Rattle.vme_trace.proofs.Ranges.{any-holds, fails-any, any-step, any-fails, clash, any-least, least-found, any-past}
use Rattle.vme_trace.proofs.Ranges.{greatest-empty, not_or, those-empty, order_of}
use Rattle.vme_trace.proofs.JudgedStretches.{stretch_reads}
use Rattle.vme_cert.specs.Vocabulary.{AS, DS0, DS1, DTACK, High, Level, Low, Stretch, Trace, Unknown, WRITE}
use Rattle.vme_cert.specs.Vocabulary.{answer_falls, answers, answers_of, answers_write, any, class_at, cycle_starts}
use Rattle.vme_cert.specs.Vocabulary.{differ, falls, greatest, high, in_transfer, is_answer, is_answered, is_high}
use Rattle.vme_cert.specs.Vocabulary.{is_judged, is_known, has_earlier_answer, is_low, is_write, known, last_before}
use Rattle.vme_cert.specs.Vocabulary.{lasts, level, levels_at, low, needs_of, none, rises, breaks_read_modify_write}
use Rattle.vme_cert.specs.Vocabulary.{strobe_rises, strobes_high, those, transfer_starts, changes_direction, BERR}
use Rattle.vme_cert.specs.Vocabulary.{IsStretchOf, Needs, cycle_of, cycle_runs, in_cycle, is_block_class, is_interrupt}
use Rattle.vme_cert.specs.Vocabulary.{is_needed, is_single, is_within}
use Rattle.vme_cert.specs.State.{is_many, writes_first, AreClosed, IsOpenTransfer, IsTransfer, IsCycle, IsLastCycle}
use Rattle.vme_cert.specs.State.{is_answered_by_dtack, is_data_held, is_unanswered}
use Rattle.vme_cert.specs.Instant.{starts_transfer}
use Rattle.vme_cert.specs.declared.state.Transfer.{Transfer}
use Rattle.vme_cert.specs.declared.state.Cycle.{Cycle}
use Rattle.vme_cert.proofs.Ranges.{IsGreatest, greatest-found, none-shorter}
use Rattle.vme_cert.proofs.Ranges.{is_judged-after_start, greatest-here, greatest-not, none-step}
use Rattle.vme_cert.proofs.Ranges.{eq-or_below}
use Rattle.vme_cert.proofs.Ranges.{greatest-none-any}
use Rattle.vme_cert.proofs.Ranges.{by_either_value, by_option, is_judged-not_opening, only-last, and-fails_unless}
use Rattle.vme_cert.proofs.Instant.{known-AS}

-- ---- The transfer of an instant: the last to start, while no instant since then had both strobes high.

module _ (t : Trace) (stretch : Stretch) where
  -- between the starts of two transfers both strobes are high
  pub strobes_high-between : (i k : ℕ) → i < k → transfer_starts t stretch i ≡ true → transfer_starts t stretch k ≡ true
      → any (strobes_high t) (i + 1) k ≡ true
  unfolding transfer_starts low high
  strobes_high-between i k order first second =
      elim (just-or-later i k order) [
        | inl e ↦ absurd (both_high-none_low (level t DS0 i) (level t DS1 i)
            (ap (strobes_high t) (sym e) ∙ strobes_high-before_second)
            (and_parts (is_judged stretch i && strobes_high t (i - 1)) _ first).1)
        | inr past ↦ any-holds (strobes_high t) (i + 1) k (k - 1) (omega arith) (omega arith) strobes_high-before_second
      ]
    where
      -- the instant before k is i or comes after it
      just-or-later : (i k : ℕ) → i < k → (k - 1 ≡ i) ⊎ (i < k - 1)
      just-or-later i k h = grind arith

      -- both strobes are high before the second transfer starts
      strobes_high-before_second : strobes_high t (k - 1) ≡ true
      strobes_high-before_second = (and_parts (is_judged stretch k) (strobes_high t (k - 1))
          (and_parts (is_judged stretch k && strobes_high t (k - 1)) _ second).0).1

  module _ (j : ℕ) (judged : is_judged stretch j ≡ true) where
    -- a transfer doesn't last to j, if both strobes were high before, after its start
    lasts-not_after_high : (i : ℕ) → any (strobes_high t) (i + 1) j ≡ true → lasts t stretch i j ≡ false
    unfolding lasts
    lasts-not_after_high i h = rw h (and-false (nat_le i j && is_judged stretch j))

    -- a transfer lasts to j, if both strobes weren't high since its start
    pub lasts-while_not_high : (i : ℕ) → i ≤ j → none (strobes_high t) (i + 1) j ≡ true → lasts t stretch i j ≡ true
    unfolding lasts
    lasts-while_not_high i order h = rw (le-leb i j order, judged, h) refl

    -- if each transfer has closed, none is open at the instant
    pub in_transfer-none : (p : ℕ → Bool) → ((i : ℕ) → i < j + 1 → transfer_starts t stretch i ≡ true
        → any (strobes_high t) (i + 1) j ≡ true) → in_transfer t stretch p j ≡ false
    unfolding in_transfer
    in_transfer-none p closed = fails-any (λ i. transfer_starts t stretch i && lasts t stretch i j && p i)
        (stretch.start + 1)
        (j + 1)
        (λ i a b. by_either_value (transfer_starts t stretch i)
        (λ e. rw (e, lasts-not_after_high i (closed i b e)) refl) (λ e. rw e refl))

    module _ (i : ℕ) (last : greatest (transfer_starts t stretch) (stretch.start + 1) (j + 1) ≡ Some i) where
      -- the last transfer to start is that of the instant i
      IsGreatest-last_start : IsGreatest (transfer_starts t stretch) (stretch.start + 1) (j + 1) i
      IsGreatest-last_start = greatest-found (transfer_starts t stretch) (stretch.start + 1) (j + 1) i last

      -- if the last transfer is open, a condition on the transfer of the instant is one on it
      pub in_transfer-last : (p : ℕ → Bool) → none (strobes_high t) (i + 1) j ≡ true → in_transfer t stretch p j ≡ p i
      in_transfer-last p still =
          let from = IsGreatest-last_start.from in
          let before = IsGreatest-last_start.before in
          in_transfer-is t stretch p i j (omega arith) (omega arith) IsGreatest-last_start.holds
          (lasts-while_not_high i (omega arith) still)

-- ---- The answer of the transfer of an instant, and those of the cycle, by the state.

module _ (t : Trace) (stretch : Stretch) (j i : ℕ) (judged : is_judged stretch j ≡ true)
    (last : greatest (transfer_starts t stretch) (stretch.start + 1) (j + 1) ≡ Some i)
    (still : none (strobes_high t) (i + 1) j ≡ true) where
  -- the transfer starts at j or before
  start-not_later : i ≤ j
  start-not_later = let before = (greatest-found (transfer_starts t stretch) (stretch.start + 1) (j + 1) i last).before
      in omega arith

  -- the transfer lasts to j
  lasts-to_instant : lasts t stretch i j ≡ true
  lasts-to_instant = lasts-while_not_high t stretch j judged i start-not_later still

  -- whether the transfer is answered before `j + 1`, by whether it is before `j`
  pub is_answered-step : is_answered t stretch i (j + 1) ≡ (is_answered t stretch i j || answer_falls t j)
  unfolding is_answered
  is_answered-step = any-step (λ r. lasts t stretch i r && answer_falls t r) i j
      ∙ rw (le-leb i j start-not_later, lasts-to_instant) refl

  -- the transfer is answered at j exactly if an answer falls there, and it wasn't answered before
  pub answers-is : answers t stretch i j ≡ (answer_falls t j && not (is_answered t stretch i j))
  unfolding answers
  answers-is = rw lasts-to_instant refl

  -- at j there is an answer of a transfer exactly if one falls there, and the last transfer wasn't answered before
  pub is_answer-is : is_answer t stretch j ≡ (answer_falls t j && not (is_answered t stretch i j))
  unfolding is_answer
  is_answer-is = in_transfer-last t stretch j judged i last (λ k. answers t stretch k j) still ∙ answers-is

-- the answers before `j + 1` of a cycle that started at `j` or before: those before `j`, and that at `j`, if any
pub answers_of-step : (t : Trace) (stretch : Stretch) (i j : ℕ) → i ≤ j → answers_of t stretch i (j + 1)
    ≡ answers_of t stretch i j ++ (if is_answer t stretch j then j ∷ [] else [])
unfolding answers_of those
answers_of-step t stretch i j order = rw (add-one, le-leb i j order) refl

-- ---- The answers of a cycle, with at most one more, and what rules ask of them.

-- there is an answer among some and maybe one more, if there is one among these or the one more is there
pub has_earlier_answer-append : (rs : List ℕ) (r : ℕ) (b : Bool) → has_earlier_answer (rs ++ (if b then r ∷ [] else []))
    ≡ (has_earlier_answer rs || b)
has_earlier_answer-append [] r true = refl
has_earlier_answer-append [] r false = refl
has_earlier_answer-append (q ∷ rs) r b = refl

-- there are many answers with maybe one more, if there are many or the one more is there after another
pub is_many-append : (rs : List ℕ) (r : ℕ) (b : Bool) → is_many (rs ++ (if b then r ∷ [] else []))
    ≡ (is_many rs || (b && has_earlier_answer rs))
is_many-append [] r true = refl
is_many-append [] r false = refl
is_many-append (q ∷ []) r true = refl
is_many-append (q ∷ []) r false = refl
is_many-append (q ∷ p ∷ rs) r b = refl

module _ (t : Trace) (stretch : Stretch) where
  -- the first answer with maybe one more is that of a write, if it was, or if the one more is, and is the first
  pub writes_first-append : (rs : List ℕ) (r : ℕ) (b : Bool) → writes_first t stretch (rs ++ (if b then r ∷ [] else []))
      ≡ (writes_first t stretch rs || (b && not (has_earlier_answer rs) && answers_write t stretch r))
  writes_first-append [] r true = refl
  writes_first-append [] r false = refl
  writes_first-append (q ∷ rs) r b = or-and_false (answers_write t stretch q) b (answers_write t stretch r)
    where
      -- what is false doesn't change `a`
      or-and_false : (a b w : Bool) → a ≡ (a || (b && false && w))
      or-and_false true b w = refl
      or-and_false false true w = refl
      or-and_false false false w = refl

  -- what rule C1 asks of the answers of a cycle, by the fields of the state
  pub breaks_read_modify_write-is : (rs : List ℕ) (r : ℕ)
      → (has_earlier_answer rs && (is_many rs || writes_first t stretch rs || not (answers_write t stretch r)))
      ≡ breaks_read_modify_write t stretch rs r
  unfolding breaks_read_modify_write
  breaks_read_modify_write-is [] r = refl
  breaks_read_modify_write-is (q ∷ []) r = refl
  breaks_read_modify_write-is (q ∷ p ∷ rs) r = refl

  -- what rule C2 asks of the answers of a cycle, by the fields of the state
  pub changes_direction-is : (rs : List ℕ) (r : ℕ)
      → (has_earlier_answer rs && not (beq (writes_first t stretch rs) (answers_write t stretch r)))
      ≡ changes_direction t stretch rs r
  unfolding changes_direction
  changes_direction-is [] r = refl
  changes_direction-is (q ∷ rs) r = differ-is (answers_write t stretch q) (answers_write t stretch r)
    where
      -- two tests differ exactly if they aren't equal
      differ-is : (a b : Bool) → not (beq a b) ≡ differ a b
      differ-is true true = refl
      differ-is true false = refl
      differ-is false true = refl
      differ-is false false = refl

-- ---- The field that says which transfer is open, as one starts, and one instant later.

-- if some number of a range meets `p`, some number of a longer range does
pub any-longer : (p : ℕ → Bool) (f m n : ℕ) → m ≤ n → any p f m ≡ true → any p f n ≡ true
any-longer p f m n order h =
    by_either_value (any p f n) (λ e. e) (λ e. absurd (clash (any p f m) h (none-shorter p f m n order e)))

module _ (t : Trace) (stretch : Stretch) (j : ℕ) (judged : is_judged stretch j ≡ true) where
  -- a transfer starts at a judged instant as the strobes of the instant say
  pub transfer_starts-is : transfer_starts t stretch j ≡ starts_transfer t j
  unfolding transfer_starts
  transfer_starts-is = rw judged refl

  -- where a transfer starts, it is the open one, not answered, and no strobe rose since
  pub IsTransfer-started : starts_transfer t j ≡ true → (w : Bool) → w ≡ low t WRITE j
      → IsTransfer t stretch (j + 1) j (record {
        is_open = true;
        start = j;
        is_write = w;
        answered = false;
        rose = false;
      })
  unfolding is_write is_answered
  IsTransfer-started here w is = record {
    here = λ e. record {
      last = greatest-here (transfer_starts t stretch) (stretch.start + 1) j (is_judged-after_start stretch j judged)
          (transfer_starts-is ∙ here);
      still = ap not (any-past (strobes_high t) (j + 1) j (omega arith));
      direction = is;
      answered = sym (any-past (λ r. lasts t stretch j r && answer_falls t r) j j (omega arith));
      rose = sym (any-past (strobe_rises t) (j + 1) j (omega arith));
    };
    absent = λ e. absurd (cc);
  }

  -- where no transfer starts, the open one stays what it is
  pub IsTransfer-not_started : starts_transfer t j ≡ false → (c : Transfer) → IsTransfer t stretch j j c
      → IsTransfer t stretch (j + 1) j c
  IsTransfer-not_started here c is = record {
    here = λ e. let w = is.here e in record {
      last = greatest-not (transfer_starts t stretch) (stretch.start + 1) j (transfer_starts-is ∙ here) ∙ w.last;
      still = w.still;
      direction = w.direction;
      answered = w.answered;
      rose = w.rose;
    };
    absent = λ e i before start. elim (eq-or_below i j before) [
      | inl same ↦ absurd
          (clash (transfer_starts t stretch j) (ap (transfer_starts t stretch) (sym same) ∙ start)
          (transfer_starts-is ∙ here))
      | inr earlier ↦ is.absent e i earlier start
    ];
  }

  -- transfers that have closed have closed one instant later
  AreClosed-later : AreClosed t stretch (j + 1) j → AreClosed t stretch (j + 1) (j + 1)
  AreClosed-later is i before start = any-longer (strobes_high t) (i + 1) j (j + 1) (omega arith) (is i before start)

  module _ (c : Transfer) (is : IsOpenTransfer t stretch (j + 1) j c) where
    -- the open transfer is the last to start
    IsGreatest-open_transfer : IsGreatest (transfer_starts t stretch) (stretch.start + 1) (j + 1) c.start
    IsGreatest-open_transfer = greatest-found (transfer_starts t stretch) (stretch.start + 1) (j + 1) c.start is.last

    -- if both strobes are high after its start, the open transfer closes, as all before it did
    AreClosed-both_high : c.start < j → strobes_high t j ≡ true → AreClosed t stretch (j + 1) (j + 1)
    AreClosed-both_high later there i before start =
        any-holds (strobes_high t) (i + 1) (j + 1) j (elim (cases_lt c.start i) [
          | inl past ↦ absurd (clash (transfer_starts t stretch i) start
              (any-fails (transfer_starts t stretch) (c.start + 1) (j + 1) i IsGreatest-open_transfer.last (omega arith)
              before))
          | inr earlier ↦ omega arith
        ]) (omega arith) there

    -- if both strobes aren't high after its start, the transfer is still open
    none-high_so_far : (nat_lt c.start j && strobes_high t j) ≡ false → none (strobes_high t) (c.start + 1) (j + 1)
        ≡ true
    none-high_so_far h = by_either_value (nat_lt c.start j)
        (λ e. let before = ltb-true c.start j e in
        let low : strobes_high t j ≡ false = rw e at h in
        none-step (strobes_high t) (c.start + 1) j (omega arith)
        ∙ and_from (none (strobes_high t) (c.start + 1) j) (not (strobes_high t j)) is.still (ap not low))
        (λ e. let same = ltb-false c.start j e in
        ap not (any-past (strobes_high t) (c.start + 1) (j + 1) (omega arith)))

    -- a strobe rose since the start of the transfer, if one did before, or does at j after the start
    pub any-strobe_rose : any (strobe_rises t) (c.start + 1) (j + 1)
        ≡ (c.rose || (nat_lt c.start j && strobe_rises t j))
    any-strobe_rose = any-step (strobe_rises t) (c.start + 1) j
        ∙ (ap (λ b. b || (nat_le (c.start + 1) j && strobe_rises t j)) (sym is.rose)
        ∙ ap (λ b. c.rose || (b && strobe_rises t j)) (lt-by_le c.start j))
      where
        -- a number is below another exactly if the next one is at most that
        lt-by_le : (i k : ℕ) → nat_le (i + 1) k ≡ nat_lt i k
        lt-by_le i k = grind (arith, nat_tests)

    -- a transfer that stays open is the open one, by its fields one instant later
    IsOpenTransfer-later : (nat_lt c.start j && strobes_high t j) ≡ false
        → IsOpenTransfer t stretch (j + 1) (j + 1) (record c {
          is_open = true;
          answered = c.answered || answer_falls t j;
          rose = any (strobe_rises t) (c.start + 1) (j + 1);
        })
    IsOpenTransfer-later h = record {
      last = is.last;
      still = none-high_so_far h;
      direction = is.direction;
      answered = ap (λ b. b || answer_falls t j) is.answered
          ∙ sym (is_answered-step t stretch j c.start judged is.last is.still);
      rose = refl;
    }

  -- the open transfer, or none, by its fields one instant later
  pub IsTransfer-later : (c : Transfer) → IsTransfer t stretch (j + 1) j c → (hi fa ro : Bool) → hi ≡ strobes_high t j
      → fa ≡ answer_falls t j → (IsOpenTransfer t stretch (j + 1) j c → ro ≡ any (strobe_rises t) (c.start + 1) (j + 1))
      → IsTransfer t stretch (j + 1) (j + 1) (record c {
        is_open = c.is_open && not (nat_lt c.start j && hi);
        answered = c.answered || fa;
        rose = ro;
      })
  IsTransfer-later c is hi fa ro h f r = rw (h, f) (by_flags c.is_open (nat_lt c.start j && strobes_high t j) refl refl)
    where
      -- by whether a transfer is open, and whether it closes
      by_flags : (a b : Bool) → c.is_open ≡ a → (nat_lt c.start j && strobes_high t j) ≡ b
          → IsTransfer t stretch (j + 1) (j + 1) (record c {
            is_open = a && not b;
            answered = c.answered || answer_falls t j;
            rose = ro;
          })
      by_flags false b e g = record { here = λ k. absurd (cc); absent = λ k. AreClosed-later (is.absent e) }
      by_flags true true e g =
          let parts = and_parts (nat_lt c.start j) (strobes_high t j) g in record {
            here = λ k. absurd (cc);
            absent = λ k. AreClosed-both_high c (is.here e) (ltb-true c.start j parts.0) parts.1;
          }
      by_flags true false e g = record {
        here = λ k. subst (λ b. IsOpenTransfer t stretch (j + 1) (j + 1) (record c {
          is_open = true;
          answered = c.answered || answer_falls t j;
          rose = b;
        })) (sym (r (is.here e))) (IsOpenTransfer-later c (is.here e) g);
        absent = λ k. absurd (cc);
      }

-- no transfer starts up to the start of a stretch
pub AreClosed-at_start : (t : Trace) (stretch : Stretch) → AreClosed t stretch (stretch.start + 1) (stretch.start + 1)
unfolding transfer_starts
AreClosed-at_start t stretch i before start =
    let judged = (and_parts (is_judged stretch i) (strobes_high t (i - 1))
    (and_parts (is_judged stretch i && strobes_high t (i - 1)) _ start).0).0 in
    let after = is_judged-after_start stretch i judged in
    absurd (omega arith)

-- for the goals of the open transfer as it starts, and one instant later
pub ruleset transfers = (IsTransfer-started, IsTransfer-not_started, IsTransfer-later, any-strobe_rose)

-- ---- The field that says which cycle is the last, as one starts, and one instant later.

-- what is high isn't low, and what is low isn't high
not-both_levels : (x : Level) → (is_high x ≡ true → is_low x ≡ false) × (is_low x ≡ true → is_high x ≡ false)
not-both_levels Low = (λ h. absurd (cc), λ h. refl)
not-both_levels High = (λ h. refl, λ h. absurd (cc))
not-both_levels Unknown = (λ h. absurd (cc), λ h. absurd (cc))

module _ (t : Trace) (l j : ℕ) where
  -- what falls is low
  pub falls-low : falls t l j ≡ true → low t l j ≡ true
  unfolding falls
  falls-low h = (and_parts (high t l (j - 1)) (low t l j) h).1

  -- what was low doesn't fall
  pub falls-not_if_low : low t l (j - 1) ≡ true → falls t l j ≡ false
  unfolding falls low high
  falls-not_if_low h = rw ((not-both_levels (level t l (j - 1))).1 h) refl

  -- what falls doesn't rise
  pub rises-not_if_falls : falls t l j ≡ true → rises t l j ≡ false
  unfolding falls rises low high
  rises-not_if_falls h = rw ((not-both_levels (level t l (j - 1))).0 (and_parts (high t l (j - 1)) (low t l j) h).0)
      refl

  -- what rises doesn't fall
  pub falls-not_if_rises : rises t l j ≡ true → falls t l j ≡ false
  unfolding rises
  falls-not_if_rises h = falls-not_if_low (and_parts (low t l (j - 1)) (high t l j) h).0

  -- what was low and doesn't rise stays low, where it is known
  pub low-next_instant : low t l (j - 1) ≡ true → rises t l j ≡ false → known t l j ≡ true → low t l j ≡ true
  unfolding rises low high known
  low-next_instant h r k = by_level (level t l j) (is_low (level t l (j - 1))) h r k
    where
      -- by the level of the line
      by_level : (x : Level) (a : Bool) → a ≡ true → (a && is_high x) ≡ false → is_known x ≡ true → is_low x ≡ true
      by_level Low a e h k = refl
      by_level High a e h k = let c : (true && true) ≡ false = rw e at h in absurd (cc)
      by_level Unknown a e h k = absurd (cc)

-- if `p` holds of some instant after i and before j, it does of some after i and before j + 1
pub none-stays_false : (p : ℕ → Bool) (i j : ℕ) → none p (i + 1) j ≡ false → none p (i + 1) (j + 1) ≡ false
none-stays_false p i j h = rw (any-step p (i + 1) j, not-false (any p (i + 1) j) h) refl

-- a cycle starts after the start of the stretch
cycle_starts-after_start : (t : Trace) (stretch : Stretch) (i : ℕ) → cycle_starts t stretch i ≡ true
    → stretch.start + 1 ≤ i
unfolding cycle_starts
cycle_starts-after_start t stretch i h =
    is_judged-after_start stretch i (and_parts (is_judged stretch i) (falls t AS i) h).0

-- AS is low where a cycle starts
cycle_starts-low : (t : Trace) (stretch : Stretch) (i : ℕ) → cycle_starts t stretch i ≡ true → low t AS i ≡ true
unfolding cycle_starts
cycle_starts-low t stretch i h = falls-low t AS i (and_parts (is_judged stretch i) (falls t AS i) h).1

-- where AS* falls each earlier cycle has ended
earlier_cycles-ended : (t : Trace) (stretch : Stretch) (j : ℕ) (c : Cycle) → IsCycle t stretch j j c → falls t AS j
    ≡ true
    → (i : ℕ)
    → cycle_starts t stretch i ≡ true → i < j → none (rises t AS) (i + 1) j ≡ false
earlier_cycles-ended t stretch j c is here i start before = by_either_value c.has_started (λ e. by_last (is.here e))
    (λ e. absurd (clash (cycle_starts t stretch i) start (any-fails (cycle_starts t stretch) (stretch.start + 1) j i
    (greatest-none-any (cycle_starts t stretch) (stretch.start + 1) j (is.absent e))
    (cycle_starts-after_start t stretch i start)
    before)))
  where
    -- by the cycle that was the last to start before `j`
    by_last : IsLastCycle t stretch j j c → none (rises t AS) (i + 1) j ≡ false
    by_last w =
        let found = greatest-found (cycle_starts t stretch) (stretch.start + 1) j c.start w.last in
        let stopped : c.runs ≡ false = by_either_value c.runs
        (λ e. absurd (clash (falls t AS j) here (falls-not_if_low t AS j (w.is_low e found.before)))) (λ e. e) in
        elim (order_of i c.start) [
          | inl earlier ↦ w.others i start earlier
          | inr (inl e) ↦ ap (λ k. none (rises t AS) (k + 1) j) e ∙ (sym w.runs ∙ stopped)
          | inr (inr past) ↦ absurd (clash (cycle_starts t stretch i) start
              (any-fails (cycle_starts t stretch) (c.start + 1) j i found.last (omega arith) before))
        ]

module _ (t : Trace) (stretch : Stretch) (j : ℕ) (judged : is_judged stretch j ≡ true) where
  -- at a judged instant a cycle starts exactly if AS falls
  pub cycle_starts-is : cycle_starts t stretch j ≡ falls t AS j
  unfolding cycle_starts
  cycle_starts-is = rw judged refl

  -- where a cycle starts, it is the last, runs and isn't answered
  pub IsLastCycle-started : (o : Cycle) → IsCycle t stretch j j o → falls t AS j ≡ true → (c : Cycle) → c.start ≡ j
      → c.class ≡ class_at t j → c.needs ≡ needs_of (levels_at t j) → c.runs ≡ true → c.answered ≡ false
      → c.first_writes ≡ false → c.answered_again ≡ false → c.answered_by_dtack ≡ false
      → IsLastCycle t stretch (j + 1) j c
  unfolding answers_of
  IsLastCycle-started o was here c at class needs runs answered first again answered_by_dtack =
      let none_yet = ap (λ k. those (is_answer t stretch) k j) at ∙ those-empty (is_answer t stretch) j j (omega arith)
      in
      record {
        last = greatest-here (cycle_starts t stretch) (stretch.start + 1) j (is_judged-after_start stretch j judged)
            (cycle_starts-is ∙ here) ∙ ap (λ k. Some k) (sym at);
        class = class ∙ sym (ap (class_at t) at);
        needs = needs ∙ sym (ap (λ k. needs_of (levels_at t k)) at);
        runs = runs ∙ sym (ap (λ k. none (rises t AS) (k + 1) j) at
            ∙ ap not (any-past (rises t AS) (j + 1) j (omega arith)));
        is_low = λ on before. absurd (omega arith);
        others = λ i start before. earlier_cycles-ended t stretch j o was here i start (omega arith);
        answered = answered ∙ sym (ap has_earlier_answer none_yet);
        first_writes = first ∙ sym (ap (writes_first t stretch) none_yet);
        answered_again = again ∙ sym (ap is_many none_yet);
        answered_by_dtack = answered_by_dtack ∙ sym (ap (λ k. is_answered_by_dtack t stretch k j) at
            ∙ any-past (λ r. is_answer t stretch r && falls t DTACK r) j j (omega arith));
      }

  -- where no cycle starts, the last one stays what it is
  pub IsCycle-not_started : falls t AS j ≡ false → (c : Cycle) → IsCycle t stretch j j c → IsCycle t stretch (j + 1) j c
  IsCycle-not_started here c is =
      let same = greatest-not (cycle_starts t stretch) (stretch.start + 1) j (cycle_starts-is ∙ here) in
      record {
        here = λ e. let w = is.here e in record {
          last = same ∙ w.last;
          class = w.class;
          needs = w.needs;
          runs = w.runs;
          is_low = w.is_low;
          others = w.others;
          answered = w.answered;
          first_writes = w.first_writes;
          answered_again = w.answered_again;
          answered_by_dtack = w.answered_by_dtack;
        };
        absent = λ e. same ∙ is.absent e;
      }

  module _ (c : Cycle) (is : IsLastCycle t stretch (j + 1) j c) where
    -- the last cycle is the last to start
    IsGreatest-last_cycle : IsGreatest (cycle_starts t stretch) (stretch.start + 1) (j + 1) c.start
    IsGreatest-last_cycle = greatest-found (cycle_starts t stretch) (stretch.start + 1) (j + 1) c.start is.last

    -- the last cycle starts at j or before
    pub last_cycle-start_not_later : c.start ≤ j
    last_cycle-start_not_later = let before = IsGreatest-last_cycle.before in omega arith

    -- the last cycle runs up to j exactly if it did before, and AS doesn't rise at j
    pub runs-step : none (rises t AS) (c.start + 1) (j + 1) ≡ (c.runs && not (rises t AS j))
    runs-step = by_order (eq-or_below c.start j IsGreatest-last_cycle.before)
      where
        -- by whether the cycle starts at j or before it
        by_order : (c.start ≡ j) ⊎ (c.start < j) → none (rises t AS) (c.start + 1) (j + 1)
            ≡ (c.runs && not (rises t AS j))
        by_order (inl e) = ap not (any-past (rises t AS) (c.start + 1) (j + 1) (omega arith))
            ∙ (sym (is.runs ∙ ap not (any-past (rises t AS) (c.start + 1) j (omega arith)))
            ∙ (sym (and-true c.runs) ∙ ap (λ b. c.runs && not b) (sym (rises-not_if_falls t AS j
            (sym cycle_starts-is ∙ (ap (cycle_starts t stretch) (sym e) ∙ IsGreatest-last_cycle.holds))))))
        by_order (inr before) = none-step (rises t AS) (c.start + 1) j (omega arith)
            ∙ ap (λ b. b && not (rises t AS j)) (sym is.runs)

    -- while the last cycle runs AS is low, where it is known
    low-while_runs : known t AS j ≡ true → (c.runs && not (rises t AS j)) ≡ true → low t AS j ≡ true
    low-while_runs knows on = by_order (eq-or_below c.start j IsGreatest-last_cycle.before)
      where
        -- the cycle ran before, and AS doesn't rise
        runs_parts : (c.runs ≡ true) × (not (rises t AS j) ≡ true)
        runs_parts = and_parts c.runs (not (rises t AS j)) on

        -- by whether the cycle starts at j or before it
        by_order : (c.start ≡ j) ⊎ (c.start < j) → low t AS j ≡ true
        by_order (inl e) = cycle_starts-low t stretch j
            (ap (cycle_starts t stretch) (sym e) ∙ IsGreatest-last_cycle.holds)
        by_order (inr before) = low-next_instant t AS j (is.is_low runs_parts.0 before)
            (not-true (rises t AS j) runs_parts.1) knows

    -- the answers of the last cycle before `j + 1` are those before `j`, and that at `j`, if there is one
    answers_of-last_cycle : answers_of t stretch c.start (j + 1)
        ≡ answers_of t stretch c.start j ++ (if is_answer t stretch j then j ∷ [] else [])
    answers_of-last_cycle = answers_of-step t stretch c.start j last_cycle-start_not_later

    -- whether an answer of the last cycle before `j + 1` is by DTACK, by whether one before `j` is
    answered_by_dtack-step : is_answered_by_dtack t stretch c.start (j + 1)
        ≡ (is_answered_by_dtack t stretch c.start j || (is_answer t stretch j && falls t DTACK j))
    answered_by_dtack-step = any-step (λ r. is_answer t stretch r && falls t DTACK r) c.start j
        ∙ rw (le-leb c.start j last_cycle-start_not_later) refl

    -- the last cycle is still the last one an instant later, by its fields then
    IsLastCycle-later : known t AS j ≡ true → IsLastCycle t stretch (j + 1) (j + 1) (record c {
      runs = c.runs && not (rises t AS j);
      answered = c.answered || is_answer t stretch j;
      first_writes = c.first_writes || (is_answer t stretch j && not c.answered && answers_write t stretch j);
      answered_again = c.answered_again || (is_answer t stretch j && c.answered);
      answered_by_dtack = c.answered_by_dtack || (is_answer t stretch j && falls t DTACK j);
    })
    IsLastCycle-later knows =
        let rs = answers_of t stretch c.start j in
        let an = is_answer t stretch j in
        let back : j + 1 - 1 ≡ j = omega arith in
        record {
          last = is.last;
          class = is.class;
          needs = is.needs;
          runs = sym runs-step;
          is_low = λ on before. ap (low t AS) back ∙ low-while_runs knows on;
          others = λ i start before. none-stays_false (rises t AS) i j (is.others i start before);
          answered = ap (λ b. b || an) is.answered
              ∙ sym (ap has_earlier_answer answers_of-last_cycle ∙ has_earlier_answer-append rs j an);
          first_writes = ap (λ b. b || (an && not c.answered && answers_write t stretch j)) is.first_writes
              ∙ (ap (λ b. writes_first t stretch rs || (an && not b && answers_write t stretch j)) is.answered
              ∙ sym (ap (writes_first t stretch) answers_of-last_cycle ∙ writes_first-append t stretch rs j an));
          answered_again = ap (λ b. b || (an && c.answered)) is.answered_again
              ∙ (ap (λ b. is_many rs || (an && b)) is.answered
              ∙ sym (ap is_many answers_of-last_cycle ∙ is_many-append rs j an));
          answered_by_dtack = ap (λ b. b || (an && falls t DTACK j)) is.answered_by_dtack ∙ sym answered_by_dtack-step;
        }

  -- the last cycle, or none, by its fields one instant later
  pub IsCycle-later : known t AS j ≡ true → (c : Cycle) → IsCycle t stretch (j + 1) j c → (ri an wr fa : Bool)
      → ri ≡ rises t AS j → an ≡ is_answer t stretch j → wr ≡ answers_write t stretch j → fa ≡ falls t DTACK j
      → IsCycle t stretch (j + 1) (j + 1) (record c {
        runs = c.runs && not ri;
        answered = c.answered || an;
        first_writes = c.first_writes || (an && not c.answered && wr);
        answered_again = c.answered_again || (an && c.answered);
        answered_by_dtack = c.answered_by_dtack || (an && fa);
      })
  IsCycle-later knows c is ri an wr fa r a w f =
      rw (r, a, w, f) (record { here = λ e. IsLastCycle-later c (is.here e) knows; absent = λ e. is.absent e })

-- for the goals of the last cycle as it starts, and one instant later
pub ruleset cycles = (IsLastCycle-started, IsCycle-not_started, IsCycle-later, known-AS)

-- ---- Whether `q` held since `p` last did: the fields that rules H6, G5 and B2 ask for.

-- whether `q` holds since `p` last did, at a judged instant j
module _ (t : Trace) (stretch : Stretch) (p q : ℕ → Bool) (j : ℕ) (judged : is_judged stretch j ≡ true) where
  -- where `p` holds at j, j is the last instant before `j + 1` at which it does
  last_before-here : p j ≡ true → last_before t stretch p (j + 1) ≡ j
  unfolding last_before
  last_before-here here = ap (λ o. unwrap_or o stretch.start)
      (greatest-here p (stretch.start + 1) j (is_judged-after_start stretch j judged) here)

  -- where `p` doesn't hold at j, the last instant before `j + 1` at which it does is that before `j`
  last_before-not_here : p j ≡ false → last_before t stretch p (j + 1) ≡ last_before t stretch p j
  unfolding last_before
  last_before-not_here here = ap (λ o. unwrap_or o stretch.start) (greatest-not p (stretch.start + 1) j here)

  -- the last instant with `p`, or else the start of the stretch, is before `j`
  last_before-bound : last_before t stretch p j + 1 ≤ j
  unfolding last_before
  last_before-bound = by_option (greatest p (stretch.start + 1) j) (λ e. rw e (is_judged-after_start stretch j judged))
      (λ i e. let found = (greatest-found p (stretch.start + 1) j i e).before in rw e (omega arith))

  -- `q` holds since `p` last did, up to `j`, exactly if it does before `j` or at `j`
  pub any_since-step : any q (last_before t stretch p j) (j + 1) ≡ (any q (last_before t stretch p j) j || q j)
  any_since-step = any-step q (last_before t stretch p j) j
      ∙ rw (le-leb (last_before t stretch p j) j (omega (arith, last_before-bound))) refl

  -- `q` holds after `p` last did, up to `j`, exactly if it does before `j` or at `j`
  pub any_after-step : any q (last_before t stretch p j + 1) (j + 1)
      ≡ (any q (last_before t stretch p j + 1) j || q j)
  any_after-step = any-step q (last_before t stretch p j + 1) j
      ∙ rw (le-leb (last_before t stretch p j + 1) j last_before-bound) refl

  -- whether `q` holds since `p` last did, before `j + 1`, by whether it did before `j`
  pub any_since-field_step : {a b c : Bool} → a ≡ any q (last_before t stretch p j) j → b ≡ p j → c ≡ q j
      → ((a && not b) || c) ≡ any q (last_before t stretch p (j + 1)) (j + 1)
  any_since-field_step e f g = rw (e, f, g)
      (by_either_value (p j) (λ e. rw (last_before-here e, e, any-from_here, and-false) refl)
      (λ e. rw (last_before-not_here e, e, any_since-step, and-true) refl))
    where
      -- from `j` on `q` has held exactly if it does at `j`
      any-from_here : any q j (j + 1) ≡ q j
      any-from_here = any-step q j j ∙ rw (any-past q j j (omega arith), le-leb j j (omega arith)) refl

  -- whether `q` holds after `p` last did, before `j + 1`, by whether it did before `j`
  pub any_after-field_step : {a b c : Bool} → a ≡ any q (last_before t stretch p j + 1) j → b ≡ p j → c ≡ q j
      → ((a || c) && not b) ≡ any q (last_before t stretch p (j + 1) + 1) (j + 1)
  any_after-field_step e f g = rw (e, f, g) (by_either_value (p j)
      (λ e. rw (last_before-here e, e, and-false) (sym (any-past q (j + 1) (j + 1) (omega arith))))
      (λ e. rw (last_before-not_here e, e, and-true) (sym any_after-step)))

-- the fields after the start of a stretch
module _ (t : Trace) (stretch : Stretch) (p q : ℕ → Bool) where
  -- just after the start of a stretch, `last_before` is the start
  last_before-start : last_before t stretch p (stretch.start + 1) ≡ stretch.start
  unfolding last_before
  last_before-start = ap (λ o. unwrap_or o stretch.start) (greatest-empty p (stretch.start + 1) (stretch.start + 1)
      (omega arith))

  -- just after the start of a stretch, `q` has held since `p` exactly if it holds at the start
  pub any_since-at_start : any q (last_before t stretch p (stretch.start + 1)) (stretch.start + 1) ≡ q stretch.start
  any_since-at_start = ap (λ k. any q k (stretch.start + 1)) last_before-start
      ∙ (any-step q stretch.start stretch.start
      ∙ rw (any-past q stretch.start stretch.start (omega arith), le-leb stretch.start stretch.start (omega arith))
      refl)

  -- just after the start of a stretch, `q` hasn't held after `p`
  pub any_after-at_start : any q (last_before t stretch p (stretch.start + 1) + 1) (stretch.start + 1) ≡ false
  any_after-at_start = ap (λ k. any q (k + 1) (stretch.start + 1)) last_before-start
      ∙ any-past q (stretch.start + 1) (stretch.start + 1) (omega arith)

module _ (t : Trace) (stretch : Stretch) (j : ℕ) (judged : is_judged stretch j ≡ true) where
  module _ (c : Transfer) (is : IsTransfer t stretch (j + 1) j c) where
    -- a condition on the open transfer, which is false if none is open, is that condition on the transfer of the
    -- instant
    in_transfer-by_open : (x : Bool) (p : ℕ → Bool) → (IsOpenTransfer t stretch (j + 1) j c → x ≡ p c.start)
        → (c.is_open && x) ≡ in_transfer t stretch p j
    in_transfer-by_open x p here = by_either_value c.is_open
        (λ e. let w = is.here e in rw e (here w ∙ sym (in_transfer-last t stretch j judged c.start w.last p w.still)))
        (λ e. rw e (sym (in_transfer-none t stretch j judged p (is.absent e))))

    -- the open transfer is answered up to j exactly if it was before, or an answer falls at j
    is_answered-by_fields : IsOpenTransfer t stretch (j + 1) j c
        → (c.answered || answer_falls t j) ≡ is_answered t stretch c.start (j + 1)
    is_answered-by_fields w =
        ap (λ b. b || answer_falls t j) w.answered ∙ sym (is_answered-step t stretch j c.start judged w.last w.still)

    -- the open transfer is answered at j exactly if an answer falls there, and it wasn't answered before
    answers-by_fields : IsOpenTransfer t stretch (j + 1) j c → (answer_falls t j && not c.answered)
        ≡ answers t stretch c.start j
    answers-by_fields w =
        ap (λ b. answer_falls t j && not b) w.answered ∙ sym (answers-is t stretch j c.start judged w.last w.still)

    -- a transfer is open exactly if the instant is in one
    pub in_transfer-is_open : c.is_open ≡ in_transfer t stretch (λ i. true) j
    in_transfer-is_open = sym (and-true c.is_open) ∙ in_transfer-by_open true (λ i. true) (λ w. refl)

    -- there is an answer at j exactly if a transfer is open, an answer falls, and it wasn't answered before
    pub is_answer-by_fields : (c.is_open && (answer_falls t j && not c.answered)) ≡ is_answer t stretch j
    unfolding is_answer
    is_answer-by_fields = in_transfer-by_open (answer_falls t j && not c.answered) (λ i. answers t stretch i j)
        (λ w. answers-by_fields w)

    -- the answer at j is that of a write exactly if the open transfer is a write
    pub answers_write-by_fields : (is_answer t stretch j && c.is_write) ≡ answers_write t stretch j
    unfolding answers_write
    answers_write-by_fields =
        ap (λ b. b && c.is_write) (sym is_answer-by_fields)
        ∙ (and_assoc c.is_open (answer_falls t j && not c.answered) c.is_write
        ∙ in_transfer-by_open ((answer_falls t j && not c.answered) && c.is_write)
        (λ i. answers t stretch i j && is_write t stretch i)
        (λ w. ap (λ b. b && c.is_write) (answers-by_fields w) ∙ ap (λ b. answers t stretch c.start j && b) w.direction))

    -- the transfer of the instant started before j and isn't answered up to j exactly if the fields of the open one say
    -- so
    pub is_unanswered-by_fields : (c.is_open && (nat_lt c.start j && not (c.answered || answer_falls t j)))
        ≡ is_unanswered t stretch j
    is_unanswered-by_fields = in_transfer-by_open (nat_lt c.start j && not (c.answered || answer_falls t j)) _
        (λ w. ap (λ b. nat_lt c.start j && not b) (is_answered-by_fields w))

    -- the transfer of the instant started before j and was answered before j exactly if the fields of the open one say
    -- so
    pub in_transfer-was_answered : (c.is_open && (nat_lt c.start j && c.answered))
        ≡ in_transfer t stretch (λ i. nat_lt i j && is_answered t stretch i j) j
    in_transfer-was_answered = in_transfer-by_open (nat_lt c.start j && c.answered) _
        (λ w. ap (λ b. nat_lt c.start j && b) w.answered)

    -- the transfer of the instant was answered before j, or both answers fall at j, exactly if the fields of the open
    -- one say so
    pub in_transfer-answered_twice : (c.is_open && (c.answered || (falls t DTACK j && falls t BERR j)))
        ≡ in_transfer t stretch
        (λ i. is_answered t stretch i j || (answers t stretch i j && falls t DTACK j && falls t BERR j)) j
    in_transfer-answered_twice = in_transfer-by_open (c.answered || (falls t DTACK j && falls t BERR j)) _
        (λ w. by_values c.answered (falls t DTACK j) (falls t BERR j)
        ∙ (ap (λ b. c.answered || (b && falls t DTACK j && falls t BERR j)) (answers-by_fields w)
        ∙ ap (λ b. b || (answers t stretch c.start j && falls t DTACK j && falls t BERR j)) w.answered))
      where
        -- by whether the transfer was answered, and which answers fall
        by_values : (a d b : Bool) → (a || (d && b)) ≡ (a || (((d || b) && not a) && d && b))
        by_values true d b = refl
        by_values false true true = refl
        by_values false true false = refl
        by_values false false true = refl
        by_values false false false = refl

    -- the transfer of the instant is a write that wasn't answered before j exactly if the fields of the open one say so
    pub in_transfer-open_write : (c.is_open && (c.is_write && not c.answered))
        ≡ in_transfer t stretch (λ i. is_write t stretch i && not (is_answered t stretch i j)) j
    in_transfer-open_write = in_transfer-by_open (c.is_write && not c.answered) _
        (λ w. rw (w.direction, w.answered) refl)

    -- the data of the transfer of the instant must be held at j exactly if the fields of the open one say so
    pub is_data_held-by_fields : (r : Bool)
        → (IsOpenTransfer t stretch (j + 1) j c → r ≡ any (strobe_rises t) (c.start + 1) (j + 1))
        → (c.is_open && (nat_lt c.start j && c.is_write && not (c.answered || answer_falls t j) && not r))
        ≡ is_data_held t stretch j
    is_data_held-by_fields r rose = in_transfer-by_open
        (nat_lt c.start j && c.is_write && not (c.answered || answer_falls t j) && not r) _
        (λ w. rw (w.direction, is_answered-by_fields w, rose w) refl)

  module _ (c : Cycle) (is : IsCycle t stretch (j + 1) j c) where
    -- a condition on the last cycle, which is false if none has started, is that condition on the cycle of the instant
    in_cycle-by_last : (x : Bool) (p : ℕ → Bool) → (IsLastCycle t stretch (j + 1) j c → x ≡ p c.start)
        → (c.has_started && x) ≡ in_cycle t stretch p j
    unfolding in_cycle cycle_of
    in_cycle-by_last x p here = by_either_value c.has_started (λ e. rw (e, (is.here e).last) (here (is.here e)))
        (λ e. rw (e, is.absent e) refl)

    -- what rule C1 asks of the last cycle, by its fields
    pub in_cycle-breaks_read_modify_write : (w : Bool) → w ≡ answers_write t stretch j
        → (c.has_started && (is_single c.class && (c.answered && (c.answered_again || c.first_writes || not w))))
        ≡ in_cycle t stretch (λ i. is_single (class_at t i)
        && breaks_read_modify_write t stretch (answers_of t stretch i j)
        j) j
    in_cycle-breaks_read_modify_write w e =
        in_cycle-by_last (is_single c.class && (c.answered && (c.answered_again || c.first_writes || not w))) _
        (λ k. rw (k.class, k.answered, k.answered_again, k.first_writes, e)
        (ap (λ b. is_single (class_at t c.start) && b)
        (breaks_read_modify_write-is t stretch (answers_of t stretch c.start j) j)))

    -- what rule C2 asks of the last cycle, by its fields
    pub in_cycle-changes_direction : (w : Bool) → w ≡ answers_write t stretch j
        → (c.has_started && (is_block_class c.class && (c.answered && not (beq c.first_writes w))))
        ≡ in_cycle t stretch (λ i. is_block_class (class_at t i)
        && changes_direction t stretch (answers_of t stretch i j)
        j) j
    in_cycle-changes_direction w e = in_cycle-by_last
        (is_block_class c.class && (c.answered && not (beq c.first_writes w))) _
        (λ k. rw (k.class, k.answered, k.first_writes, e)
        (ap (λ b. is_block_class (class_at t c.start) && b)
        (changes_direction-is t stretch (answers_of t stretch c.start j) j)))

    -- the cycle of the instant is an interrupt acknowledge exactly if the fields of the last cycle say so
    pub in_cycle-interrupt : (c.has_started && is_interrupt c.class) ≡ in_cycle t stretch
        (λ i. is_interrupt (class_at t i)) j
    in_cycle-interrupt = in_cycle-by_last (is_interrupt c.class) _ (λ k. ap is_interrupt k.class)

    -- the cycle of the instant is an interrupt acknowledge that was answered exactly if the fields of the last cycle
    -- say so
    pub in_cycle-answered_interrupt : (c.has_started && (is_interrupt c.class && c.answered))
        ≡ in_cycle t stretch (λ i. is_interrupt (class_at t i) && has_earlier_answer (answers_of t stretch i j))
        j
    in_cycle-answered_interrupt = in_cycle-by_last (is_interrupt c.class && c.answered) _
        (λ k. rw (k.class, k.answered) refl)

    -- the cycle of the instant is that of the instant before, if none starts here
    in_cycle-instant_before : falls t AS j ≡ false → (p : ℕ → Bool) → in_cycle t stretch p j
        ≡ in_cycle t stretch p (j - 1)
    unfolding in_cycle cycle_of
    in_cycle-instant_before still p =
        let some = is_judged-not_opening stretch j judged in
        let back : j ≡ j - 1 + 1 = omega arith in
        ap (λ o. option_map_or p o false)
        (greatest-not (cycle_starts t stretch) (stretch.start + 1) j (cycle_starts-is t stretch j judged ∙ still)
        ∙ ap (greatest (cycle_starts t stretch) (stretch.start + 1)) back)

    -- where no cycle starts, that of the instant before was answered by DTACK exactly if the fields of the last cycle
    -- say so
    pub in_cycle-answered_by_dtack : falls t AS j ≡ false → (c.has_started && c.answered_by_dtack)
        ≡ in_cycle t stretch (λ i. is_answered_by_dtack t stretch i j) (j - 1)
    in_cycle-answered_by_dtack still =
        in_cycle-by_last c.answered_by_dtack (λ i. is_answered_by_dtack t stretch i j) (λ k. k.answered_by_dtack)
        ∙ in_cycle-instant_before still (λ i. is_answered_by_dtack t stretch i j)

-- for the goals of the questions that the state answers
pub ruleset questions = (is_answer-by_fields, answers_write-by_fields, is_unanswered-by_fields, is_data_held-by_fields)

-- ---- What a cycle or a transfer holds while it lasts: the lines that the cycle needs, and the direction of the
-- transfer. Of all cycles, and of all transfers, only the last may hold them.

-- some number of a range meets `p` exactly if the list of those that do isn't empty
any-those : (p : ℕ → Bool) (f n : ℕ) → any p f n ≡ has_earlier_answer (those p f n)
unfolding any those
any-those p f zero = refl
any-those p f (suc n) = rw (any-those p f n) (not_empty-push (those p f n) (nat_le f n && p n))
  where
    -- a list with one number more, if b is true, isn't empty exactly if it wasn't or b is true
    not_empty-push : (rs : List ℕ) (b : Bool) → (has_earlier_answer rs || b)
        ≡ has_earlier_answer (rs ++ cond b (n ∷ []) [])
    not_empty-push [] true = refl
    not_empty-push [] false = refl
    not_empty-push (r ∷ rs) b = refl

-- a line that was low stays so while it is known and doesn't rise
low-up_to : (t : Trace) (l i k : ℕ) → low t l i ≡ true → i ≤ k → ((r : ℕ) → i < r → r ≤ k → known t l r ≡ true)
    → ((r : ℕ) → i < r → r ≤ k → rises t l r ≡ false) → low t l k ≡ true
low-up_to t l i zero starts order knows still = let same : 0 ≡ i = omega arith in ap (low t l) same ∙ starts
low-up_to t l i (suc k) starts order knows still =
    elim (eq-or_below i (suc k) (omega arith)) [
      | inl same ↦ ap (low t l) (sym same) ∙ starts
      | inr before ↦
          let back : k ≡ suc k - 1 = omega arith in
          let earlier = low-up_to t l i k starts (omega arith) (λ r a b. knows r a (omega arith))
          (λ r a b. still r a (omega arith)) in
          low-next_instant t l (suc k) (ap (low t l) (sym back) ∙ earlier) (still (suc k) before (omega arith))
          (knows (suc k) before (omega arith))
    ]

-- the lines that a cycle needs are those that the levels at its start need
module _ (t : Trace) (start : ℕ) where
  -- a line is within what a cycle needs exactly if the levels at its start need it
  pub is_within-needs_at_start : (needs : Needs) (l : ℕ) → needs ≡ needs_of (levels_at t start) → is_within needs l
      ≡ is_needed (levels_at t start) l
  unfolding is_needed
  is_within-needs_at_start needs l e = ap (λ (n : Needs). is_within n l) e

module _ (t : Trace) (stretch : Stretch) (is : IsStretchOf t stretch) where
  -- from the start of a transfer to where both strobes are high, one rises
  any-strobe_rises_until_high : (i k : ℕ) → transfer_starts t stretch i ≡ true → i < k → k < stretch.end
      → strobes_high t k ≡ true
      → any (strobe_rises t) (i + 1) (k + 1) ≡ true
  unfolding transfer_starts low high
  any-strobe_rises_until_high i k start before end high_there =
      by_either_value (any (strobe_rises t) (i + 1) (k + 1)) (λ e. e) (λ none. absurd
      (both_high-none_low (level t DS0 k) (level t DS1 k) high_there
      (by_low (low t DS0 i) (low t DS1 i) start_parts.1 refl refl (no_rise_between none))))
    where
      -- the levels of both strobes are read throughout the stretch
      strobes_known : ReadsStrobes t stretch
      strobes_known = stretch_reads t stretch is

      -- both strobes were high before the start, and one is low at it
      start_parts : ((is_judged stretch i && strobes_high t (i - 1)) ≡ true) × ((low t DS0 i || low t DS1 i) ≡ true)
      start_parts = and_parts (is_judged stretch i && strobes_high t (i - 1)) (low t DS0 i || low t DS1 i) start

      -- the transfer starts after the stretch does
      after_start : stretch.start + 1 ≤ i
      after_start = is_judged-after_start stretch i
          (and_parts (is_judged stretch i) (strobes_high t (i - 1)) start_parts.0).0

      -- if no strobe rises up to k, neither line rises between
      no_rise_between : any (strobe_rises t) (i + 1) (k + 1) ≡ false → (r : ℕ) → i < r → r ≤ k
          → (rises t DS0 r ≡ false) × (rises t DS1 r ≡ false)
      no_rise_between none r a b = or_parts (rises t DS0 r) (rises t DS1 r)
          (any-fails (strobe_rises t) (i + 1) (k + 1) r none (omega arith) (omega arith))

      -- by which strobe is low at the start of the transfer
      by_low : (a b : Bool) → (a || b) ≡ true → low t DS0 i ≡ a → low t DS1 i ≡ b
          → ((r : ℕ) → i < r → r ≤ k → (rises t DS0 r ≡ false) × (rises t DS1 r ≡ false))
          → (low t DS0 k || low t DS1 k) ≡ true
      by_low true b h e f still = rw (low-up_to t DS0 i k e (omega arith)
          (λ r a b. strobes_known.first r (omega (arith, after_start)) (omega arith)) (λ r a b. (still r a b).0)) refl
      by_low false true h e f still = rw (low-up_to t DS1 i k f (omega arith)
          (λ r a b. strobes_known.second r (omega (arith, after_start)) (omega arith)) (λ r a b. (still r a b).1))
          (or-true (low t DS0 k))
      by_low false false h e f still = absurd (cc)

  module _ (j : ℕ) (judged : is_judged stretch j ≡ true) where
    -- a judged instant is before the end of the stretch
    judged-before_end : j < stretch.end
    judged-before_end = ltb-true j stretch.end (and_parts (nat_lt stretch.start j) (nat_lt j stretch.end) judged).1

    -- ---- the direction of a transfer
    -- the transfer that starts at i holds the direction at j: no strobe rose since
    abbrev directs : ℕ → Bool
    directs i = transfer_starts t stretch i && none (strobe_rises t) (i + 1) (j + 1)

    -- a transfer doesn't hold the direction if both strobes were high since its start
    directs-not_closed : (i : ℕ) → any (strobes_high t) (i + 1) j ≡ true → transfer_starts t stretch i ≡ true
        → directs i
        ≡ false
    directs-not_closed i closed start =
        let some = any-least (strobes_high t) (i + 1) j closed in
        let found = least-found (strobes_high t) (i + 1) j some.0 some.1 in
        let first = found.first in
        let below = found.below in
        rw (
          any-longer (strobe_rises t) (i + 1) (some.0 + 1) (j + 1) (omega arith)
              (any-strobe_rises_until_high i some.0 start (omega arith) (omega (arith, judged-before_end)) found.holds),
          start,
        ) refl

    -- if each transfer has closed, none holds the direction
    directs-none_if_closed : AreClosed t stretch (j + 1) j → any directs (stretch.start + 1) j ≡ false
    directs-none_if_closed closed = fails-any directs (stretch.start + 1) j
        (λ i a b. and-fails_unless (transfer_starts t stretch i) _
        (λ e. directs-not_closed i (closed i (omega arith) e) e))

    -- the open transfer holds the direction exactly if it started before j and no strobe rose since
    directs-last : (c : Transfer) → IsOpenTransfer t stretch (j + 1) j c
        → any directs (stretch.start + 1) j ≡ (nat_lt c.start j && none (strobe_rises t) (c.start + 1) (j + 1))
    directs-last c h =
        let found = greatest-found (transfer_starts t stretch) (stretch.start + 1) (j + 1) c.start h.last in
        let within = found.before in
        only-last (transfer_starts t stretch) directs (stretch.start + 1) j c.start found (λ i e. rw e refl)
        (λ i before e. directs-not_closed i (any-longer (strobes_high t) (i + 1) c.start j (omega arith)
        (strobes_high-between t stretch i c.start before e found.holds)) e)
        ∙ ap (λ b. nat_lt c.start j && (b && none (strobe_rises t) (c.start + 1) (j + 1))) found.holds

    -- some transfer holds the direction at j exactly if the fields of the open one say so
    pub directs-by_fields : (c : Transfer) → IsTransfer t stretch (j + 1) j c → (r : Bool)
        → (IsOpenTransfer t stretch (j + 1) j c → r ≡ any (strobe_rises t) (c.start + 1) (j + 1))
        → (c.is_open && nat_lt c.start j && not r) ≡ any directs (stretch.start + 1) j
    directs-by_fields c is r rose = by_either_value c.is_open
        (λ e. rw e (ap (λ b. nat_lt c.start j && not b) (rose (is.here e)) ∙ sym (directs-last c (is.here e))))
        (λ e. rw e (sym (directs-none_if_closed (is.absent e))))

    -- ---- a line that a cycle needs
    module _ (l : ℕ) where
      -- the cycle that starts at i needs the line at j: it runs and isn't answered up to j
      abbrev needs : ℕ → Bool
      needs i = cycle_starts t stretch i && cycle_runs t i j && none (is_answer t stretch) i (j + 1)
          && is_needed
          (levels_at t i) l

      -- where no cycle starts, none needs the line
      needs-not_without_start : (i : ℕ) → cycle_starts t stretch i ≡ false → needs i ≡ false
      needs-not_without_start i h = rw h refl

      -- a cycle that has ended doesn't need the line
      needs-not_after_end : (i : ℕ) → none (rises t AS) (i + 1) j ≡ false → needs i ≡ false
      unfolding cycle_runs
      needs-not_after_end i h = rw (none-stays_false (rises t AS) i j h) (and-false_second (cycle_starts t stretch i))
        where
          -- what is false makes a conjunction false, after another condition too
          and-false_second : (a : Bool) → (a && false && none (is_answer t stretch) i (j + 1) && is_needed
              (levels_at t i) l) ≡ false
          and-false_second true = refl
          and-false_second false = refl

      -- if no cycle has started, none needs the line
      needs-none : greatest (cycle_starts t stretch) (stretch.start + 1) (j + 1) ≡ None
          → any needs (stretch.start + 1) j
          ≡ false
      needs-none nowhere = fails-any needs (stretch.start + 1) j
          (λ i a b. needs-not_without_start i
          (any-fails (cycle_starts t stretch) (stretch.start + 1) (j + 1) i (greatest-none-any _ _ _ nowhere) a
          (omega arith)))

      -- only the last cycle may need the line, as its fields say
      needs-last : (c : Cycle) → IsLastCycle t stretch (j + 1) j c
          → any needs (stretch.start + 1) j ≡
          (nat_lt c.start j && (c.runs && not (rises t AS j)) && not
          (has_earlier_answer (answers_of t stretch c.start j))
          && not (is_answer t stretch j) && is_needed (levels_at t c.start) l)
      unfolding answers_of cycle_runs
      needs-last c h =
          only-last (cycle_starts t stretch) needs (stretch.start + 1) j c.start IsGreatest-last_cycle_start
          (λ i e. needs-not_without_start i e)
          (λ i before e. needs-not_after_end i (h.others i e before))
          ∙ (ap (λ b. nat_lt c.start j && b) needs-start ∙ and-group_first (nat_lt c.start j) _ _ _ _)
        where
          -- a condition on a conjunction is one part of it
          and-group_first : (n a b x y : Bool) → (n && (a && b && x && y)) ≡ (n && a && b && x && y)
          and-group_first true a b x y = refl
          and-group_first false a b x y = refl

          -- the last cycle is the last to start
          IsGreatest-last_cycle_start : IsGreatest (cycle_starts t stretch) (stretch.start + 1) (j + 1) c.start
          IsGreatest-last_cycle_start = greatest-found (cycle_starts t stretch) (stretch.start + 1) (j + 1) c.start
              h.last

          -- the cycle isn't answered up to j exactly if it wasn't before, nor is at j
          none-answers : none (is_answer t stretch) c.start (j + 1) ≡
              (not (has_earlier_answer (answers_of t stretch c.start j)) && not (is_answer t stretch j))
          none-answers = rw (
            any-step (is_answer t stretch) c.start j,
            le-leb c.start j (last_cycle-start_not_later t stretch j judged c h),
            any-those
                (is_answer t stretch) c.start j,
          )
              (not_or (has_earlier_answer (those (is_answer t stretch) c.start j)) (is_answer t stretch j))

          -- whether the last cycle needs the line, by its fields
          needs-start : needs c.start ≡
              ((c.runs && not (rises t AS j)) && not (has_earlier_answer (answers_of t stretch c.start j)) && not
              (is_answer t stretch j) && is_needed (levels_at t c.start) l)
          needs-start = rw (IsGreatest-last_cycle_start.holds, none-answers, runs-step t stretch j judged c h)
              (and-regroup (c.runs && not (rises t AS j)) (not (has_earlier_answer (answers_of t stretch c.start j)))
              (not (is_answer t stretch j)) (is_needed (levels_at t c.start) l))
            where
              -- a part that is true may be left out of a conjunction
              and-regroup : (a b x y : Bool) → (true && a && (b && x) && y) ≡ (a && b && x && y)
              and-regroup true true x y = refl
              and-regroup true false x y = refl
              and-regroup false b x y = refl

      -- some cycle needs the line at j exactly if the fields of the last one say so
      pub needs-by_fields : (c : Cycle) → IsCycle t stretch (j + 1) j c → (ri an ne : Bool) → ri ≡ rises t AS j
          → an ≡ is_answer t stretch j → ne ≡ is_within c.needs l
          → (c.has_started && nat_lt c.start j && (c.runs && not ri) && not c.answered && not an && ne)
          ≡ any needs (stretch.start + 1) j
      needs-by_fields c is ri an ne r a n = rw (r, a, n) (by_either_value c.has_started
          (λ e. let w = is.here e in
          rw (e, w.answered, is_within-needs_at_start t c.start c.needs l w.needs) (sym (needs-last c w)))
          (λ e. rw e (sym (needs-none (is.absent e)))))

-- ---- The parts of a rule, as the code tests them and as they are defined.

module _ {s : Bool} (its_line : s ≡ true) {a b x y : Bool} (first : a ≡ x) (second : b ≡ y) where
  -- a rule of two parts is, on its line, the tests of its parts
  pub and-two_parts : (a && b) ≡ (s && x && y)
  and-two_parts = rw (its_line, first, second) refl

  -- a rule of three parts is, on its line, the tests of its parts
  pub and-three_parts : {c z : Bool} → c ≡ z → (a && b && c) ≡ ((s && x) && y && z)
  and-three_parts third = rw (its_line, first, second, third) refl

-- a rule that is broken in one of two ways is the tests of the two
pub or-two_parts : {a b x y : Bool} → a ≡ x → b ≡ y → (a || b) ≡ (x || y)
or-two_parts e f = rw (e, f) refl

-- if a is the contrary of b, b is that of a
pub not-swapped : (a b : Bool) → a ≡ not b → b ≡ not a
not-swapped a true h = rw h refl
not-swapped a false h = rw h refl

-- for the arms of `is_broken`
pub ruleset asked = (
  in_transfer-was_answered,
  in_cycle-interrupt,
  in_cycle-answered_interrupt,
  in_transfer-is_open,
  in_transfer-open_write,
  in_cycle-breaks_read_modify_write,
  in_cycle-changes_direction,
  in_transfer-answered_twice,
  cycle_starts-is,
  is_within-needs_at_start,
  transfer_starts-is,
  needs-by_fields,
  in_cycle-answered_by_dtack,
  falls-not_if_low,
  any_since-step,
  any_after-step,
)
