-- A line has an edge at an instant exactly if a change of the step to it makes that edge; and which lines are the grant
-- nets.
use Rattle.std.proofs.Common.{◌≡◌, ℕ, ◌+◌, ◌-◌, ◌/◌, ◌<◌, ◌≤◌, Bool, true, false, ◌&&◌, ◌||◌, List}
use Rattle.std.proofs.Common.{[], ◌∷◌, refl, sym, ◌∙◌, ap, arith}
use Rattle.std.specs.Prelude.{◌==◌}
use Rattle.std.specs.List.{list_any}
use Rattle.std.proofs.lemmas.Bool.Decides.{nat_tests}
use Rattle.std.proofs.Math.Bool.{and-false, or-true}
use Rattle.std.proofs.lemmas.Bool.{and_parts, eqb-true}
use Rattle.vme_trace.specs.Changes.{is_changed}
use Rattle.vme_trace.specs.Edges.{falls_between, rises_between}
use Rattle.vme_trace.specs.Instants.{any}
use Rattle.vme_trace.specs.Levels.{Levels}
use Rattle.vme_trace.specs.LineNumbers.{grant, has_line, is_arbiter_grant, is_grant, is_slot_grant, line_count}
use Rattle.vme_trace.specs.Trace.{changed}
use Rattle.vme_trace.specs.WellFormed.{are_changes}
use Rattle.vme_trace.specs.declared.step.Change.{Change}
use Rattle.vme_trace.proofs.Changing.{level-kept, slots-kept, exists_below}
use Rattle.vme_trace.proofs.Changing.{falls_between-unchanged, rises_between-unchanged}
use Rattle.vme_trace.proofs.Ranges.{any-holds, any-least, clash, least-found}
use Rattle.vme_chains.proofs.GrantArbiter.{is_arbiter_grant-of_level, grant-below_line_count}
use Rattle.vme_auditor.specs.Events.{net_falls, net_rises}
use Rattle.vme_auditor.proofs.Truth.{or_swapped}

-- truth values of which each follows from the other are equal
equal-both_ways : (a b : Bool) → (a ≡ true → b ≡ true) → (b ≡ true → a ≡ true) → a ≡ b
equal-both_ways true true f g = refl
equal-both_ways true false f g = sym (f refl)
equal-both_ways false true f g = g refl
equal-both_ways false false f g = refl

-- some line has a property that only changed lines have exactly if the line of some change has it
module _ (p q : ℕ → Bool) (v : Levels) (few : v.slots ≤ 21)
    (there : (l : ℕ) → has_line v.slots l ≡ true → q l ≡ p l) where
  -- the line of the first change exists, and the other changes are of higher lines
  abbrev exists_first : (lowest : ℕ) (c : Change) (cs : List Change) → are_changes v lowest (c ∷ cs) ≡ true → Type 0
  exists_first lowest c cs h = (has_line v.slots c.line ≡ true) × (are_changes v (c.line + 1) cs ≡ true)

  -- changes from line `lowest` on are a change of a line that exists, and changes of higher lines
  are_changes-first : (lowest : ℕ) (c : Change) (cs : List Change) (h : are_changes v lowest (c ∷ cs) ≡ true)
      → exists_first lowest c cs h
  unfolding are_changes
  are_changes-first lowest c cs h =
      let first = (and_parts _ _ h).0 in
      ((and_parts _ _ (and_parts _ _ first).0).1, (and_parts _ _ h).1)

  -- if `q` holds of the line of some change, `p` holds of some line
  any-from_changes : (lowest : ℕ) (cs : List Change) → are_changes v lowest cs ≡ true → list_any (λ c. q c.line) cs
      ≡ true
      → any p 0 line_count ≡ true
  any-from_changes lowest [] h e = absurd (cc)
  any-from_changes lowest (c ∷ cs) h e = by_line (q c.line) refl (any-from_changes (c.line + 1) cs rest)
    where
      facts : exists_first lowest c cs h
      facts = are_changes-first lowest c cs h

      rest : are_changes v (c.line + 1) cs ≡ true
      rest = (are_changes-first lowest c cs h).1

      by_line : (b : Bool) → q c.line ≡ b → (list_any (λ c. q c.line) cs ≡ true → any p 0 line_count ≡ true)
          → any p 0 line_count ≡ true
      by_line true here others =
          let exists = (are_changes-first lowest c cs h).0 in
          any-holds p 0 line_count c.line (omega arith) (exists_below v.slots c.line few exists)
          (sym (there c.line exists) ∙ here)
      by_line false here others = others (ap (λ b. b || list_any (λ c. q c.line) cs) (sym here) ∙ e)

  -- if `p` holds of a changed line, `q` holds of the line of some change
  any_change-from_line : (lowest l : ℕ) (cs : List Change) → are_changes v lowest cs ≡ true → is_changed cs l ≡ true
      → p l ≡ true
      → list_any (λ c. q c.line) cs ≡ true
  any_change-from_line lowest l [] h e holds = absurd (cc)
  any_change-from_line lowest l (c ∷ cs) h e holds =
      by_line (c.line == l) refl (any_change-from_line (c.line + 1) l cs rest)
    where
      rest : are_changes v (c.line + 1) cs ≡ true
      rest = (are_changes-first lowest c cs h).1

      by_line : (b : Bool) → (c.line == l) ≡ b
          → (is_changed cs l ≡ true → p l ≡ true → list_any (λ c. q c.line) cs ≡ true)
          → (q c.line || list_any (λ c. q c.line) cs) ≡ true
      by_line true here others =
          let exists = (are_changes-first lowest c cs h).0 in
          rw (there c.line exists ∙ ap p (eqb-true c.line l here) ∙ holds) refl
      by_line false here others =
          rw (others (ap (λ b. b || is_changed cs l) (sym here) ∙ e) holds) (or-true (q c.line))

  -- if `p` holds of no unchanged line, it holds of some line exactly if `q` holds of the line of some change
  pub any-of_changes : (cs : List Change) → are_changes v 0 cs ≡ true
      → ((l : ℕ) → is_changed cs l ≡ false → p l ≡ false) → any p 0 line_count ≡ list_any (λ c. q c.line) cs
  any-of_changes cs h alone =
      equal-both_ways (any p 0 line_count) (list_any (λ c. q c.line) cs) onto (any-from_changes 0 cs h)
    where
      listed : (l : ℕ) → p l ≡ true → (b : Bool) → is_changed cs l ≡ b → list_any (λ c. q c.line) cs ≡ true
      listed l holds true e = any_change-from_line 0 l cs h e holds
      listed l holds false e = absurd (clash (p l) holds (alone l e))

      onto : any p 0 line_count ≡ true → list_any (λ c. q c.line) cs ≡ true
      onto e =
          let found = any-least p 0 line_count e in
          let l = found.0 in
          listed l (least-found p 0 line_count l found.1).holds (is_changed cs l) refl

-- edges between the levels on both sides of a step
module _ (v : Levels) (few : v.slots ≤ 21) (cs : List Change) (fit : are_changes v 0 cs ≡ true)
    (chosen : ℕ → Bool) where
  -- the levels after the step
  abbrev after : Levels
  after = changed v cs

  -- a line without the edge is no chosen line with it
  and-no_edge : (l : ℕ) (b : Bool) → b ≡ false → (chosen l && b) ≡ false
  and-no_edge l b e = ap (λ x. chosen l && x) e ∙ and-false (chosen l)

  -- a chosen line has an edge, which an unchanged line doesn't have, exactly if some change gives it one
  any-edge_between : (edge net : ℕ → Bool) → ((l : ℕ) → has_line v.slots l ≡ true → net l ≡ edge l)
      → ((l : ℕ) → is_changed cs l ≡ false → edge l ≡ false)
      → any (λ l. chosen l && edge l) 0 line_count ≡ list_any (λ c. chosen c.line && net c.line) cs
  any-edge_between edge net there alone =
      any-of_changes (λ l. chosen l && edge l) (λ l. chosen l && net l) v few
      (λ l h. ap (λ b. chosen l && b) (there l h)) cs fit (λ l e. and-no_edge l (edge l) (alone l e))

  -- a chosen line falls exactly if some change lets a chosen line fall
  pub any-falls_between : any (λ l. chosen l && falls_between v after l) 0 line_count
      ≡ list_any (λ c. chosen c.line && net_falls v after c.line) cs
  any-falls_between =
      any-edge_between (λ l. falls_between v after l) (λ l. net_falls v after l) there
      (λ l e. falls_between-unchanged v after l (level-kept v cs l e))
    where
      there : (l : ℕ) → has_line v.slots l ≡ true → net_falls v after l ≡ falls_between v after l
      there l h = rw (slots-kept v cs, h) refl

  -- a chosen line rises exactly if some change lets a chosen line rise
  pub any-rises_between : any (λ l. chosen l && rises_between v after l) 0 line_count
      ≡ list_any (λ c. chosen c.line && net_rises v after c.line) cs
  any-rises_between =
      any-edge_between (λ l. rises_between v after l) (λ l. net_rises v after l) there
      (λ l e. rises_between-unchanged v after l (level-kept v cs l e))
    where
      there : (l : ℕ) → has_line v.slots l ≡ true → net_rises v after l ≡ rises_between v after l
      there l h = rw (slots-kept v cs, h) refl

-- a grant net of the arbiter is the first net of the chain of one of the levels 0 to 3
grant-of_arbiter_net : (l : ℕ) → is_arbiter_grant l ≡ true → (grant ((l - 50) / 22) 0 ≡ l) × ((l - 50) / 22 < 4)
grant-of_arbiter_net l h = (net l h, few l h)
  where
    net : (l : ℕ) → is_arbiter_grant l ≡ true → grant ((l - 50) / 22) 0 ≡ l
    net l h = grind (arith, nat_tests)

    few : (l : ℕ) → is_arbiter_grant l ≡ true → (l - 50) / 22 < 4
    few l h = grind (arith, nat_tests)

-- `p` holds of some grant net of the arbiter exactly if it holds of the first net of some level's chain
pub any-arbiter_grant : (p : ℕ → Bool) → any (λ l. is_arbiter_grant l && p l) 0 line_count
    ≡ any (λ n. p (grant n 0)) 0 4
any-arbiter_grant p =
    equal-both_ways (any (λ l. is_arbiter_grant l && p l) 0 line_count) (any (λ n. p (grant n 0)) 0 4) onto back
  where
    onto : any (λ l. is_arbiter_grant l && p l) 0 line_count ≡ true → any (λ n. p (grant n 0)) 0 4 ≡ true
    onto e =
        let found = any-least (λ l. is_arbiter_grant l && p l) 0 line_count e in
        let l = found.0 in
        let holds = (least-found (λ l. is_arbiter_grant l && p l) 0 line_count l found.1).holds in
        let level = grant-of_arbiter_net l (and_parts (is_arbiter_grant l) (p l) holds).0 in
        any-holds (λ n. p (grant n 0)) 0 4 ((l - 50) / 22) (omega arith) level.1
        (ap p level.0 ∙ (and_parts (is_arbiter_grant l) (p l) holds).1)

    back : any (λ n. p (grant n 0)) 0 4 ≡ true → any (λ l. is_arbiter_grant l && p l) 0 line_count ≡ true
    back e =
        let found = any-least (λ n. p (grant n 0)) 0 4 e in
        let n = found.0 in
        let least = least-found (λ n. p (grant n 0)) 0 4 n found.1 in
        any-holds (λ l. is_arbiter_grant l && p l) 0 line_count (grant n 0) (omega arith)
        (grant-below_line_count n least.below)
        (rw (is_arbiter_grant-of_level n least.below) least.holds)

-- a grant net is the arbiter's or a slot's
is_grant-arbiter_or_slot : (l : ℕ) (x : Bool) → ((is_arbiter_grant l && x) || (is_slot_grant l && x))
    ≡ (is_grant l && x)
is_grant-arbiter_or_slot l true = grind (arith, nat_tests)
is_grant-arbiter_or_slot l false = grind (arith, nat_tests)

-- a change lets a grant net fall exactly if one lets the arbiter's or a slot's grant net fall
pub any-is_grant : (v w : Levels) (cs : List Change)
    → (list_any (λ c. is_arbiter_grant c.line && net_falls v w c.line) cs
    || list_any (λ c. is_slot_grant c.line && net_falls v w c.line) cs)
    ≡ list_any (λ c. is_grant c.line && net_falls v w c.line) cs
any-is_grant v w [] = refl
any-is_grant v w (c ∷ cs) =
    or_swapped (is_arbiter_grant c.line && net_falls v w c.line)
    (list_any (λ c. is_arbiter_grant c.line && net_falls v w c.line) cs) (is_slot_grant c.line && net_falls v w c.line)
    (list_any (λ c. is_slot_grant c.line && net_falls v w c.line) cs)
    ∙ ap (λ b. b || (list_any (λ c. is_arbiter_grant c.line && net_falls v w c.line) cs
    || list_any (λ c. is_slot_grant c.line && net_falls v w c.line) cs))
    (is_grant-arbiter_or_slot c.line (net_falls v w c.line))
    ∙ ap (λ b. (is_grant c.line && net_falls v w c.line) || b) (any-is_grant v w cs)
