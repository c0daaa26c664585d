-- What the memory of the grant monitor (the state of its automaton) means at an instant, and how this changes with a
-- step.
use Rattle.std.proofs.Common.{◌≡◌, ℕ, suc, ◌+◌, ◌<◌, ◌≤◌, Bool, true, false, ◌&&◌, ◌||◌, not, refl, ◌∙◌, ap, arith}
use Rattle.std.proofs.Common.{cond}
use Rattle.std.proofs.Math.Bool.{or-false}
use Rattle.vme_trace.specs.Instants.{any}
use Rattle.vme_trace.specs.LineNumbers.{BBSY, BR}
use Rattle.vme_trace.specs.Trace.{Trace}
use Rattle.vme_trace.specs.Signals.{low, falls}
use Rattle.vme_trace.specs.Judged.{Stretch}
use Rattle.vme_trace.specs.Tenures.{grant_falls, last_before}
use Rattle.vme_trace.proofs.Ranges.{fails-any, any-holds, any-next}
use Rattle.vme_chains.specs.GrantMemory.{is_in}
use Rattle.vme_chains.specs.declared.grant_memory.Arbitration.{Arbitration}
use Rattle.vme_chains.proofs.GrantRanges.{last_before-start, last_before-here, last_before-earlier, last_before-within}

-- p holds of some number of a range of one just if it holds of that
any-one : (p : ℕ → Bool) (n : ℕ) → any p n (suc n) ≡ p n
any-one p n = any-next p n n (omega arith) ∙ ap (λ b. b || p n) (fails-any p n n (λ i a b. absurd (omega arith)))

module _ (t : Trace) (stretch : Stretch) where
  -- level l was requested at some instant up to n, from the last grant or the start of the stretch on, that instant
  -- included
  abbrev pub requested_since : ℕ → ℕ → Bool
  requested_since n l = any (low t (BR l)) (last_before t stretch (grant_falls t) (suc n)) (suc n)

  -- a grant fell at some instant up to n, after the last fall of BBSY* or the start of the stretch
  abbrev pub granted_since : ℕ → Bool
  granted_since n = any (grant_falls t) (last_before t stretch (falls t BBSY) (suc n) + 1) (suc n)

  -- the memory m is right of instant n
  pub record Holds (n : ℕ) (m : Arbitration) : Type 0 where
    pub requests : (l : ℕ) → l < 4 → is_in m.requests l ≡ requested_since n l
    pub granted : m.granted ≡ granted_since n

  -- at the start of the stretch a level was requested just if it is requested there
  pub requested_since-start : (l : ℕ) → requested_since stretch.start l ≡ low t (BR l) stretch.start
  requested_since-start l =
      ap (λ f. any (low t (BR l)) f (suc stretch.start)) (last_before-start t stretch (grant_falls t))
      ∙ any-one (low t (BR l)) stretch.start

  -- at the start of the stretch nothing was granted
  pub granted_since-start : granted_since stretch.start ≡ false
  granted_since-start =
      ap (λ f. any (grant_falls t) (f + 1) (suc stretch.start)) (last_before-start t stretch (falls t BBSY))
      ∙ fails-any (grant_falls t) (stretch.start + 1) (suc stretch.start) (λ i a b. absurd (omega arith))

  -- a request from the last grant before n + 1 on, up to n + 1
  pub any-requested_up_to_next : (n l : ℕ) → stretch.start ≤ n → any (low t (BR l))
      (last_before t stretch (grant_falls t) (suc n))
      (suc (suc n)) ≡ (requested_since n l || low t (BR l) (suc n))
  any-requested_up_to_next n l from =
      let h = last_before-within t stretch (grant_falls t) n from in
      any-next (low t (BR l)) (last_before t stretch (grant_falls t) (suc n)) (suc n) (omega arith)

  -- a grant after the last fall of BBSY before n + 1, up to n + 1
  pub any-granted_up_to_next : (n : ℕ) → stretch.start ≤ n → any (grant_falls t)
      (last_before t stretch (falls t BBSY) (suc n) + 1)
      (suc (suc n)) ≡ (granted_since n || grant_falls t (suc n))
  any-granted_up_to_next n from =
      let h = last_before-within t stretch (falls t BBSY) n from in
      any-next (grant_falls t) (last_before t stretch (falls t BBSY) (suc n) + 1) (suc n) (omega arith)

  -- a level is requested since the last grant, up to n + 1, just if its request is low there, or it was requested so up
  -- to n and no grant begins at n + 1
  pub requested_since-next : (n l : ℕ) → stretch.start ≤ n → requested_since (suc n) l ≡ cond (grant_falls t (suc n))
      (low t (BR l) (suc n)) (requested_since n l || low t (BR l) (suc n))
  requested_since-next n l from = by_grant (grant_falls t (suc n)) refl
    where
      by_grant : (b : Bool) → grant_falls t (suc n) ≡ b → requested_since (suc n) l ≡ cond b (low t (BR l) (suc n))
          (requested_since n l || low t (BR l) (suc n))
      by_grant true e = ap (λ f. any (low t (BR l)) f (suc (suc n))) (last_before-here t stretch (grant_falls t) (suc n)
          (omega arith) e) ∙ any-one (low t (BR l)) (suc n)
      by_grant false e =
          ap (λ f. any (low t (BR l)) f (suc (suc n))) (last_before-earlier t stretch (grant_falls t) (suc n) e)
          ∙ any-requested_up_to_next n l from

  -- `granted_since` holds at n + 1 just if BBSY doesn't fall there, and it holds at n or a grant begins at n + 1
  pub granted_since-next : (n : ℕ) → stretch.start ≤ n → granted_since (suc n)
      ≡ (not (falls t BBSY (suc n)) && (granted_since n || grant_falls t (suc n)))
  granted_since-next n from = by_fall (falls t BBSY (suc n)) refl
    where
      by_fall : (b : Bool) → falls t BBSY (suc n) ≡ b → granted_since (suc n)
          ≡ (not b && (granted_since n || grant_falls t (suc n)))
      by_fall true e =
          ap (λ f. any (grant_falls t) (f + 1) (suc (suc n)))
          (last_before-here t stretch (falls t BBSY) (suc n) (omega arith)
          e)
          ∙ fails-any (grant_falls t) (suc n + 1) (suc (suc n)) (λ i a b. absurd (omega arith))
      by_fall false e = ap (λ f. any (grant_falls t) (f + 1) (suc (suc n)))
          (last_before-earlier t stretch (falls t BBSY) (suc n) e)
          ∙ any-granted_up_to_next n from

  -- a level that is requested at n is one requested since the last grant
  pub requested_since-now : (n l : ℕ) → stretch.start ≤ n → (requested_since n l || low t (BR l) n)
      ≡ requested_since n l
  requested_since-now n l from = by_level (low t (BR l) n) refl
    where
      or_true : (a : Bool) → a ≡ true → (a || true) ≡ a
      or_true a h = rw h refl

      by_level : (b : Bool) → low t (BR l) n ≡ b → (requested_since n l || b) ≡ requested_since n l
      by_level true e =
          let h = last_before-within t stretch (grant_falls t) n from in
          or_true (requested_since n l) (any-holds (low t (BR l)) (last_before t stretch (grant_falls t) (suc n))
          (suc n) n
          (omega arith) (omega arith) e)
      by_level false e = or-false (requested_since n l)
