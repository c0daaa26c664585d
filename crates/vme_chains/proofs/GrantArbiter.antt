-- The rule on requests, G5: the least line is the net of the least level that is granted without a request.
use Rattle.std.proofs.Common.{◌≡◌, ℕ, zero, suc, ◌+◌, ◌<◌, ◌≤◌, Bool, true, false, ◌&&◌, ◌||◌, not, refl, sym, ◌∙◌, ap}
use Rattle.std.proofs.Common.{arith, Option, Some, None, cond}
use Rattle.std.specs.Prelude.{option_map}
use Rattle.std.proofs.lemmas.Bool.Decides.{nat_tests}
use Rattle.std.proofs.lemmas.Bool.{and_left}
use Rattle.vme_trace.specs.Instants.{any, none, least}
use Rattle.vme_trace.specs.LineNumbers.{line_count, BR, grant, has_line, is_arbiter_grant, grant_level}
use Rattle.vme_trace.specs.Trace.{Trace, levels_at}
use Rattle.vme_trace.specs.Signals.{low, falls}
use Rattle.vme_trace.specs.Judged.{Stretch, is_judged}
use Rattle.vme_trace.specs.Rules.{breaks, is_broken}
use Rattle.vme_trace.specs.Tenures.{grant_falls, last_before}
use Rattle.vme_trace.specs.declared.rule.Rule.TheVariants.{G5}
use Rattle.vme_trace.proofs.Ranges.{any-fails, fails-any, least-alike, least-found, least-is, least-none}
use Rattle.vme_trace.proofs.Ranges.{least-none-any}
use Rattle.vme_trace.proofs.OpenTransfers.{is_judged-holds}
use Rattle.vme_chains.specs.GrantLevels.{falls_between, requested_in, grant_begins}
use Rattle.vme_chains.specs.GrantMemory.{is_in, union}
use Rattle.vme_chains.specs.GrantRules.{unrequested}
use Rattle.vme_chains.specs.declared.grant_memory.Arbitration.{Arbitration}
use Rattle.vme_chains.specs.declared.grant_memory.LevelSet.{LevelSet}
use Rattle.vme_chains.proofs.GrantLines.{has_line-net}
use Rattle.vme_chains.proofs.GrantEdges.{falls_between-falls, requested_in-low}
use Rattle.vme_chains.proofs.GrantMeaning.{Holds, any-requested_up_to_next}
use Rattle.vme_chains.proofs.GrantTests.{rule-other_kind, rule-same_kind, add-one_suc}

-- a net that the arbiter drives is the first net of the chain of its level
grant-of_arbiter_net : (l : ℕ) → is_arbiter_grant l ≡ true → l ≡ grant (grant_level l) 0
grant-of_arbiter_net l h = grind (arith, nat_tests)

-- the level of a net that the arbiter drives is one from 0 to 3
grant_level-below_4 : (l : ℕ) → is_arbiter_grant l ≡ true → grant_level l < 4
grant_level-below_4 l h = grind (arith, nat_tests)

-- the arbiter drives the first net of the chain of each level
pub is_arbiter_grant-of_level : (n : ℕ) → n < 4 → is_arbiter_grant (grant n 0) ≡ true
is_arbiter_grant-of_level n h = grind (arith, nat_tests)

-- the level of the first net of a level's chain is that level
grant_level-of_net : (n : ℕ) → n < 4 → grant_level (grant n 0) ≡ n
grant_level-of_net n h = omega arith

-- of two nets that the arbiter drives the lesser is that of the lesser level
lt-lower_net : (m n l : ℕ) → l ≡ grant m 0 → l < grant n 0 → m < n
lt-lower_net m n l e h = omega arith

-- the first net of a level's chain is a line
pub grant-below_line_count : (n : ℕ) → n < 4 → grant n 0 < line_count
grant-below_line_count n h = omega arith

-- if p fails on all lines but the nets that the arbiter drives, the least line with p is the net of the least level
-- with p
least-arbiter_net : (p : ℕ → Bool) → ((l : ℕ) → is_arbiter_grant l ≡ false → p l ≡ false) → least p 0 line_count
    ≡ option_map (λ n. grant n 0) (least (λ n. p (grant n 0)) 0 4)
least-arbiter_net p elsewhere = by_least (least (λ n. p (grant n 0)) 0 4) refl
  where
    fails_on : (l k : ℕ) → ((n : ℕ) → n < k → p (grant n 0) ≡ false) → (is_arbiter_grant l ≡ true → grant_level l < k)
        → (b : Bool) → is_arbiter_grant l ≡ b → p l ≡ false
    fails_on l k fails below true e = ap p (grant-of_arbiter_net l e) ∙ fails (grant_level l) (below e)
    fails_on l k fails below false e = elsewhere l e

    by_least : (o : Option ℕ) → least (λ n. p (grant n 0)) 0 4 ≡ o → least p 0 line_count ≡ option_map (λ n. grant n 0)
        o
    by_least None e =
        let nowhere = least-none-any (λ n. p (grant n 0)) 0 4 e in
        least-none p 0 line_count
        (fails-any p 0 line_count (λ l a b. fails_on l 4 (λ n h. any-fails (λ n. p (grant n 0)) 0 4 n nowhere
        (omega arith) h) (grant_level-below_4 l) (is_arbiter_grant l) refl))
    by_least (Some n) e =
        let found = least-found (λ n. p (grant n 0)) 0 4 n e in
        least-is p 0 line_count (grant n 0) (omega arith) (grant-below_line_count n found.below) found.holds
        (fails-any p 0 (grant n 0)
        (λ l a b.
        fails_on l n (λ m h. any-fails (λ n. p (grant n 0)) 0 n m found.least (omega arith) h)
        (λ arbiter. lt-lower_net (grant_level l) n l (grant-of_arbiter_net l arbiter) b) (is_arbiter_grant l) refl))

-- a level is in the union of two sets just if it is in one of them
pub is_in-union : (a b : LevelSet) (l : ℕ) → l < 4 → is_in (union a b) l ≡ (is_in a l || is_in b l)
is_in-union a b zero h = refl
is_in-union a b (suc zero) h = refl
is_in-union a b (suc (suc zero)) h = refl
is_in-union a b (suc (suc (suc zero))) h = refl
is_in-union a b (suc (suc (suc (suc l)))) h = absurd (omega arith)

module _ (t : Trace) (stretch : Stretch) (few : t.opening.slots ≤ 21) (n : ℕ) (from : stretch.start ≤ n)
    (before : suc n < stretch.end) (m : Arbitration) (held : Holds t stretch n m) where
  -- a level is requested by the memory or at n + 1 just if it was requested since the last grant, up to n + 1
  is_in-requested : (l : ℕ) → l < 4 → is_in (union m.requests (requested_in (levels_at t (suc n)))) l
      ≡ any (low t (BR l))
      (last_before t stretch (grant_falls t) (suc n)) (suc n + 1)
  is_in-requested l h =
      is_in-union m.requests (requested_in (levels_at t (suc n))) l h
      ∙ rw (held.requests l h, requested_in-low t (suc n) l h) (sym (any-requested_up_to_next t stretch n l from))
      ∙ ap (any (low t (BR l)) (last_before t stretch (grant_falls t) (suc n))) (sym (add-one_suc n))

  -- G5 is broken on no line but the nets that the arbiter drives
  breaks-G5_elsewhere : (l : ℕ) → is_arbiter_grant l ≡ false → breaks t stretch G5 (suc n) l ≡ false
  unfolding breaks is_broken
  breaks-G5_elsewhere l h = rule-other_kind _ (has_line t.opening.slots l) (is_arbiter_grant l) (falls t l (suc n)) _ h

  -- G5 is broken on the net of a level just if that falls while the level isn't requested
  breaks-G5 : (i : ℕ) → i < 4 → breaks t stretch G5 (suc n) (grant i 0)
      ≡ (falls_between (levels_at t n) (levels_at t (suc n))
      (grant i 0) && not (is_in (union m.requests (requested_in (levels_at t (suc n)))) i))
  unfolding breaks is_broken
  breaks-G5 i h =
      let exists = has_line-net t.opening.slots i 0 h (omega arith) few in
      rule-same_kind (is_judged stretch (suc n)) (has_line t.opening.slots (grant i 0)) (is_arbiter_grant (grant i 0))
      (falls t (grant i 0) (suc n)) (falls_between (levels_at t n) (levels_at t (suc n)) (grant i 0))
      (none (low t (BR (grant_level (grant i 0)))) (last_before t stretch (grant_falls t) (suc n)) (suc n + 1))
      (not (is_in (union m.requests (requested_in (levels_at t (suc n)))) i))
      (is_judged-holds stretch (suc n) (omega arith) before) exists (is_arbiter_grant-of_level i h)
      (falls_between-falls t n (grant i 0) exists)
      (ap not (is_in-requested i h) ∙ ap (λ l. none (low t (BR l)) (last_before t stretch (grant_falls t) (suc n))
      (suc n + 1)) (sym (grant_level-of_net i h)))

  -- the least line that breaks G5 is the net of the least level that is granted without a request
  least-G5_net : least (breaks t stretch G5 (suc n)) 0 line_count ≡ option_map (λ n. grant n 0)
      (unrequested (levels_at t n) (levels_at t (suc n)) (union m.requests (requested_in (levels_at t (suc n)))))
  least-G5_net = least-arbiter_net (breaks t stretch G5 (suc n)) breaks-G5_elsewhere ∙ ap (option_map (λ n. grant n 0))
      (least-alike _ _ 0 4 (λ i a b. breaks-G5 i b))

  -- if the arbiter begins no grant, none is granted without a request
  unrequested-no_grant : (b : Bool) → grant_begins (levels_at t n) (levels_at t (suc n)) ≡ b → (requests : LevelSet)
      → option_map (λ n. grant n 0) (unrequested (levels_at t n) (levels_at t (suc n)) requests)
      ≡ cond b (option_map (λ n. grant n 0) (unrequested (levels_at t n) (levels_at t (suc n)) requests)) None
  unrequested-no_grant true e requests = refl
  unrequested-no_grant false e requests =
      ap (option_map (λ n. grant n 0))
      (least-none _ 0 4
      (fails-any _ 0 4 (λ i a b. and_left (falls_between (levels_at t n) (levels_at t (suc n)) (grant i 0)) _
      (any-fails (λ n'. falls_between (levels_at t n) (levels_at t (suc n)) (grant n' 0)) 0 4 i e a b))))

  -- the least line that breaks G5 is the net of the least level that is granted without a request, if the arbiter
  -- begins a grant
  pub least-G5 : least (breaks t stretch G5 (suc n)) 0 line_count
      ≡ cond (grant_begins (levels_at t n) (levels_at t (suc n)))
      (option_map (λ n. grant n 0) (unrequested (levels_at t n) (levels_at t (suc n))
      (union m.requests (requested_in (levels_at t (suc n)))))) None
  least-G5 = least-G5_net ∙ unrequested-no_grant (grant_begins (levels_at t n) (levels_at t (suc n))) refl
      (union m.requests (requested_in (levels_at t (suc n))))
