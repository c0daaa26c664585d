-- What the levels before and after a step show of grants and requests is what the definitions say of the instants.
use Rattle.std.proofs.Common.{◌≡◌, ℕ, zero, suc, ◌+◌, ◌-◌, ◌<◌, ◌≤◌, Bool, true, false, ◌&&◌, ◌||◌, not, refl, sym, ◌∙◌}
use Rattle.std.proofs.Common.{ap, arith, Option, Some, None, cond}
use Rattle.std.specs.Prelude.{option_map, option_and_then, ◌==◌}
use Rattle.std.specs.Option.{is_some}
use Rattle.vme_trace.specs.Instants.{any, least, greatest}
use Rattle.vme_trace.specs.LineNumbers.{BR, grant, has_line}
use Rattle.vme_trace.specs.Levels.{level_at, is_low, is_high, seen_level}
use Rattle.vme_trace.specs.Trace.{Trace, levels_at}
use Rattle.vme_trace.specs.Signals.{near, low, high, falls, rises}
use Rattle.vme_trace.specs.Tenures.{is_granting, grant_falls, taken_grant, tenure_level, tenure_slot, has_reached}
use Rattle.vme_trace.specs.declared.level.Level.TheVariants.{Unknown}
use Rattle.vme_trace.proofs.Ranges.{any-alike, every-alike, least-alike, least-found, greatest-alike}
use Rattle.vme_trace.proofs.Ranges.{is_some-least}
use Rattle.vme_trace.proofs.OpenTransfers.{suc-sub-one}
use Rattle.vme_trace.proofs.StretchEnds.{slots_at}
use Rattle.vme_chains.specs.GrantLevels.{is_low_in, is_high_in, falls_between, rises_between, low_near}
use Rattle.vme_chains.specs.GrantLevels.{high_near, requested_in, grant_begins, granted_level, reaches, reached_slot}
use Rattle.vme_chains.specs.GrantLevels.{taken_at, taken_in, taken_between, is_ungranted}
use Rattle.vme_chains.specs.GrantMemory.{is_in}
use Rattle.vme_chains.proofs.GrantLines.{has_line-net}

module _ (t : Trace) where
  -- a line that the backplane has is shown with its level
  shown-existing : (k l : ℕ) → has_line t.opening.slots l ≡ true
      → seen_level (levels_at t k) l ≡ level_at (levels_at t k) l
  shown-existing k l h = rw (slots_at t k, h) refl

  -- a line that the backplane doesn't have is shown as unknown
  shown-absent : (k l : ℕ) → has_line t.opening.slots l ≡ false → seen_level (levels_at t k) l ≡ Unknown
  shown-absent k l h = rw (slots_at t k, h) refl

  -- a line of the backplane is shown low just if it is low at the instant
  pub is_low_in-low : (k l : ℕ) → has_line t.opening.slots l ≡ true → is_low_in (levels_at t k) l ≡ low t l k
  unfolding low
  is_low_in-low k l h = ap is_low (shown-existing k l h)

  -- a line of the backplane is shown high just if it is high at the instant
  pub is_high_in-high : (k l : ℕ) → has_line t.opening.slots l ≡ true → is_high_in (levels_at t k) l ≡ high t l k
  unfolding high
  is_high_in-high k l h = ap is_high (shown-existing k l h)

  -- the instant before n + 1 is n
  before-suc : (p : ℕ → Bool) (n : ℕ) → p (suc n - 1) ≡ p n
  before-suc p n = ap p (suc-sub-one n)

  -- `&&` of equal truth values is equal
  and-equal : {a b c d : Bool} → a ≡ c → b ≡ d → (a && b) ≡ (c && d)
  and-equal e h = rw (e, h) refl

  -- `||` of equal truth values is equal
  or-equal : {a b c d : Bool} → a ≡ c → b ≡ d → (a || b) ≡ (c || d)
  or-equal e h = rw (e, h) refl

  -- a line of the backplane falls between the levels just if it falls at n + 1
  pub falls_between-falls : (n l : ℕ) → has_line t.opening.slots l ≡ true
      → falls_between (levels_at t n) (levels_at t (suc n)) l
      ≡ falls t l (suc n)
  unfolding falls
  falls_between-falls n l h =
      and-equal (is_high_in-high n l h ∙ sym (before-suc (high t l) n)) (is_low_in-low (suc n) l h)

  -- a line of the backplane rises between the levels just if it rises at n + 1
  pub rises_between-rises : (n l : ℕ) → has_line t.opening.slots l ≡ true
      → rises_between (levels_at t n) (levels_at t (suc n)) l
      ≡ rises t l (suc n)
  unfolding rises
  rises_between-rises n l h =
      and-equal (is_low_in-low n l h ∙ sym (before-suc (low t l) n)) (is_high_in-high (suc n) l h)

  -- a line that the backplane doesn't have doesn't fall between the levels
  pub falls_between-absent : (n l : ℕ) → has_line t.opening.slots l ≡ false → falls_between (levels_at t n)
      (levels_at t (suc n)) l ≡ false
  falls_between-absent n l h = ap (λ x. is_high x && is_low_in (levels_at t (suc n)) l) (shown-absent n l h)

  -- a line that the backplane doesn't have doesn't rise between the levels
  pub rises_between-absent : (n l : ℕ) → has_line t.opening.slots l ≡ false → rises_between (levels_at t n)
      (levels_at t (suc n)) l ≡ false
  rises_between-absent n l h = ap (λ x. is_low x && is_high_in (levels_at t (suc n)) l) (shown-absent n l h)

  -- a line of the backplane is low on a side of the step just if it is low at n + 1 or before
  pub low_near-near : (n l : ℕ) → has_line t.opening.slots l ≡ true → low_near (levels_at t n) (levels_at t (suc n)) l
      ≡ near (low t l) (suc n)
  low_near-near n l h = or-equal (is_low_in-low n l h ∙ sym (before-suc (low t l) n)) (is_low_in-low (suc n) l h)

  -- a line of the backplane is high on a side of the step just if it is high at n + 1 or before
  pub high_near-near : (n l : ℕ) → has_line t.opening.slots l ≡ true → high_near (levels_at t n) (levels_at t (suc n)) l
      ≡ near (high t l) (suc n)
  high_near-near n l h = or-equal (is_high_in-high n l h ∙ sym (before-suc (high t l) n)) (is_high_in-high (suc n) l h)

  -- a level is requested just if its request line is low
  pub requested_in-low : (k l : ℕ) → l < 4 → is_in (requested_in (levels_at t k)) l ≡ low t (BR l) k
  requested_in-low k zero h = is_low_in-low k 46 refl
  requested_in-low k (suc zero) h = is_low_in-low k 47 refl
  requested_in-low k (suc (suc zero)) h = is_low_in-low k 48 refl
  requested_in-low k (suc (suc (suc zero))) h = is_low_in-low k 49 refl
  requested_in-low k (suc (suc (suc (suc l)))) h = absurd (omega arith)

  module _ (few : t.opening.slots ≤ 21) where
    -- the backplane has the first net of each grant chain
    has_line-first_net : (n : ℕ) → n < 4 → has_line t.opening.slots (grant n 0) ≡ true
    has_line-first_net n level = has_line-net t.opening.slots n 0 level (omega arith) few

    -- the arbiter begins to grant between the levels just if it does at n + 1
    pub grant_begins-grant_falls : (n : ℕ) → grant_begins (levels_at t n) (levels_at t (suc n)) ≡ grant_falls t (suc n)
    unfolding grant_falls
    grant_begins-grant_falls n = any-alike _ _ 0 4 (λ i a b. falls_between-falls n (grant i 0) (has_line-first_net i b))

    -- the arbiter grants on a net other than l by the levels just if it does at the instant
    pub any-other_granted : (k l : ℕ) → any (λ n. not (grant n 0 == l) && is_low_in (levels_at t k) (grant n 0)) 0 4
        ≡ any (λ n. not (grant n 0 == l) && low t (grant n 0) k) 0 4
    any-other_granted k l =
        any-alike _ _ 0 4 (λ i a b. and-equal refl (is_low_in-low k (grant i 0) (has_line-first_net i b)))

    -- the least level that is granted at instant k
    abbrev pub level_on : ℕ → Option ℕ
    level_on k = least (λ n. low t (grant n 0) k) 0 4

    -- the slot that the grant of that level has reached at instant k
    abbrev pub slot_on : ℕ → Option ℕ
    slot_on k = option_map (λ i. 1 + i) (option_and_then (λ n. greatest (has_reached t k n) 0 (t.opening.slots + 1))
        (level_on k))

    -- the least level that is granted by the levels is that of the instant
    granted_level-level_on : (k : ℕ) → granted_level (levels_at t k) ≡ level_on k
    granted_level-level_on k = least-alike _ _ 0 4 (λ i a b. is_low_in-low k (grant i 0) (has_line-first_net i b))

    -- a level is granted by the levels just if one is at the instant
    pub granted_level-is_granting : (k : ℕ) → is_some (granted_level (levels_at t k)) ≡ is_granting t k
    unfolding is_granting
    granted_level-is_granting k = ap is_some (granted_level-level_on k) ∙ is_some-least _ 0 4

    -- a grant has reached a net by the levels just if it has at the instant
    reaches-has_reached : (k n i : ℕ) → n < 4 → i < t.opening.slots + 1 → reaches (levels_at t k) n i
        ≡ has_reached t k n i
    unfolding has_reached
    reaches-has_reached k n i level within = every-alike _ _ 0 (i + 1) (λ net a b. is_low_in-low k (grant n net)
        (has_line-net t.opening.slots n net level (omega arith) few))

    -- the last net that the grant of the least level has reached is the same by the levels and at the instant
    greatest-reaches : (k : ℕ) (o : Option ℕ) → level_on k ≡ o
        → option_and_then (λ n. greatest (reaches (levels_at t k) n) 0 (t.opening.slots + 1)) o ≡ option_and_then
        (λ n. greatest (has_reached t k n) 0 (t.opening.slots + 1)) o
    greatest-reaches k None e = refl
    greatest-reaches k (Some n) e =
        let found = least-found (λ n. low t (grant n 0) k) 0 4 n e in
        greatest-alike _ _ 0 (t.opening.slots + 1) (λ i a b. reaches-has_reached k n i found.below b)

    -- the slot that the grant has reached is the same by the levels and at the instant
    reached_slot-slot_on : (k : ℕ) → reached_slot (levels_at t k) ≡ slot_on k
    reached_slot-slot_on k =
        ap (λ s. option_map (λ i. 1 + i) (option_and_then (λ n. greatest (reaches (levels_at t k) n) 0 (s + 1))
        (granted_level (levels_at t k)))) (slots_at t k)
        ∙ ap (λ o. option_map (λ i. 1 + i)
        (option_and_then (λ n. greatest (reaches (levels_at t k) n) 0 (t.opening.slots + 1)) o))
        (granted_level-level_on k)
        ∙ ap (option_map (λ i. 1 + i)) (greatest-reaches k (level_on k) refl)

    -- grants of equal levels and slots are equal
    taken_at-equal : (a b c d : Option ℕ) → a ≡ b → c ≡ d → taken_at a c ≡ taken_at b d
    taken_at-equal a b c d e h = rw (e, h) refl

    -- the grant by the levels is that of the instant
    taken_in-level_on : (k : ℕ) → taken_in (levels_at t k) ≡ taken_at (level_on k) (slot_on k)
    taken_in-level_on k = taken_at-equal _ _ _ _ (granted_level-level_on k) (reached_slot-slot_on k)

    -- the grant that a tenure takes between the levels is that of the tenure that starts at n + 1
    pub taken_between-tenure : (n : ℕ) → taken_between (levels_at t n) (levels_at t (suc n))
        ≡ taken_at (tenure_level t (suc n)) (tenure_slot t (suc n))
    unfolding tenure_level tenure_slot taken_grant
    taken_between-tenure n = ap (λ b. cond b (taken_in (levels_at t (suc n))) (taken_in (levels_at t n)))
        (granted_level-is_granting (suc n)) ∙ by_grant (is_granting t (suc n))
      where
        by_grant : (b : Bool)
            → cond b (taken_in (levels_at t (suc n))) (taken_in (levels_at t n))
            ≡ taken_at (level_on (cond b (suc n) (suc n - 1))) (slot_on (cond b (suc n) (suc n - 1)))
        by_grant true = taken_in-level_on (suc n)
        by_grant false = taken_in-level_on n ∙ ap (λ k. taken_at (level_on k) (slot_on k)) (sym (suc-sub-one n))

    -- no level is granted on either side of the step just if none is at n + 1 or before
    pub is_ungranted-is_granting : (n : ℕ) → is_ungranted (levels_at t n) (levels_at t (suc n))
        ≡ not (near (is_granting t) (suc n))
    is_ungranted-is_granting n =
        ap not (or-equal (granted_level-is_granting n ∙ sym (before-suc (is_granting t) n))
        (granted_level-is_granting (suc n)))
