-- A step that changes no line of the arbitration bus breaks nothing and shows nothing, unless a cycle starts.
use Rattle.std.proofs.Common.{◌≡◌, ℕ, suc, ◌<◌, ◌≤◌, Bool, true, false, ◌&&◌, ◌||◌, List, [], ◌∷◌, refl, sym, ◌∙◌, ap}
use Rattle.std.proofs.Common.{arith, Option, None, cond}
use Rattle.std.specs.Prelude.{◌==◌}
use Rattle.std.proofs.lemmas.Bool.Decides.{nat_tests}
use Rattle.std.proofs.lemmas.Bool.{and_left, or_parts, eqb-true}
use Rattle.vme_trace.specs.LineNumbers.{BBSY, BR, grant, is_grant}
use Rattle.vme_trace.specs.Changes.{first_changed, is_changed}
use Rattle.vme_trace.specs.Levels.{Levels}
use Rattle.vme_trace.specs.Trace.{Trace, levels_at, changed}
use Rattle.vme_trace.specs.Judged.{Stretch}
use Rattle.vme_trace.specs.WellFormed.{are_changes}
use Rattle.vme_trace.specs.declared.rule.Rule.TheVariants.{G1, G2, G3, G4}
use Rattle.vme_trace.specs.declared.step.Change.{Change}
use Rattle.vme_trace.proofs.Ranges.{fails-any, clash}
use Rattle.vme_monitor.specs.declared.mark.Fault.{Fault}
use Rattle.vme_monitor.specs.declared.mark.BusGrant.{BusGrant}
use Rattle.vme_chains.specs.GrantLevels.{is_arbitration, touches_arbitration, is_net_broken}
use Rattle.vme_chains.specs.GrantLevels.{grant_begins, falls_between, rises_between}
use Rattle.vme_chains.specs.GrantRules.{nets_fault, step_fault}
use Rattle.vme_chains.specs.declared.grant_memory.LevelSet.{LevelSet}
use Rattle.vme_chains.proofs.GrantNets.{falls_between-unchanged, rises_between-unchanged}

-- if `touches_arbitration` is false, no line of the arbitration bus is among the changes
pub is_changed-untouched : (cs : List Change) (l : ℕ) → touches_arbitration cs ≡ false → is_arbitration l ≡ true
    → is_changed cs l
    ≡ false
is_changed-untouched [] l h k = refl
is_changed-untouched (c ∷ cs) l h k =
    let both = or_parts (is_arbitration c.line) (touches_arbitration cs) h in
    rw (is_changed-untouched cs l both.1 k) (other (c.line == l) refl)
  where
    other : (b : Bool) → (c.line == l) ≡ b → (b || false) ≡ false
    other false e = refl
    other true e = absurd (clash (is_arbitration l) k (ap is_arbitration (sym (eqb-true c.line l e))
        ∙ (or_parts (is_arbitration c.line) (touches_arbitration cs) h).0))

-- no changed line has p, if p fails on all lines that aren't of the arbitration bus
first_changed-untouched : (p : ℕ → Bool) → ((l : ℕ) → is_arbitration l ≡ false → p l ≡ false) → (cs : List Change)
    → touches_arbitration cs ≡ false → first_changed p cs ≡ None
first_changed-untouched p off [] h = refl
first_changed-untouched p off (c ∷ cs) h =
    let both = or_parts (is_arbitration c.line) (touches_arbitration cs) h in
    rw (off c.line both.0) (first_changed-untouched p off cs both.1)

-- a line that isn't of the arbitration bus is no grant net
is_grant-not_arbitration : (l : ℕ) → is_arbitration l ≡ false → is_grant l ≡ false
is_grant-not_arbitration l h = grind (arith, nat_tests)

-- a rule on one kind of line isn't broken on a line of another kind
pub and-other_kind : (kind edge rest : Bool) → kind ≡ false → (kind && edge && rest) ≡ false
and-other_kind kind edge rest h = rw h refl

-- a step that changes no line of the arbitration bus breaks none of G1 to G4
pub nets_fault-untouched : (v w : Levels) (cs : List Change) → touches_arbitration cs ≡ false → nets_fault v w cs ≡ None
nets_fault-untouched v w cs h =
    rw (
      first_changed-untouched (is_net_broken G1 v w)
          (λ l k. and-other_kind _ _ _ (and_left (is_grant l) _ (is_grant-not_arbitration l k))) cs h,
      first_changed-untouched (is_net_broken G2 v w)
          (λ l k. and-other_kind _ _ _ (and_left (is_grant l) _ (is_grant-not_arbitration l k))) cs h,
      first_changed-untouched (is_net_broken G3 v w)
          (λ l k. and-other_kind _ _ _ (and_left (is_grant l) _ (is_grant-not_arbitration l k))) cs h,
      first_changed-untouched (is_net_broken G4 v w) (λ l k. and-other_kind _ _ _ (is_grant-not_arbitration l k)) cs h,
    ) refl

-- the nets that the arbiter drives are of the arbitration bus
is_arbitration-net : (n : ℕ) → n < 4 → is_arbitration (grant n 0) ≡ true
is_arbitration-net n h = grind (arith, nat_tests)

-- the request lines are of the arbitration bus
pub is_arbitration-request : (n : ℕ) → n < 4 → is_arbitration (BR n) ≡ true
is_arbitration-request n h = grind (arith, nat_tests)

-- a step that changes no line of the arbitration bus
module _ (t : Trace) (stretch : Stretch) (few : t.opening.slots ≤ 21) (n : ℕ) (from : stretch.start ≤ n)
    (before : suc n < stretch.end) (cs : List Change) (step : levels_at t (suc n) ≡ changed (levels_at t n) cs)
    (fit : are_changes (levels_at t n) 0 cs ≡ true) (h : touches_arbitration cs ≡ false) where
  -- at a step that changes no line of the arbitration bus the arbiter begins no grant
  pub grant_begins-untouched : grant_begins (levels_at t n) (levels_at t (suc n)) ≡ false
  grant_begins-untouched =
      fails-any _ 0 4 (λ i a b. falls_between-unchanged t stretch few n from before cs step fit (grant i 0)
      (is_changed-untouched cs (grant i 0) h (is_arbitration-net i b)))

  -- at a step that changes no line of the arbitration bus BBSY doesn't fall
  pub falls_between-busy_untouched : falls_between (levels_at t n) (levels_at t (suc n)) BBSY ≡ false
  falls_between-busy_untouched =
      falls_between-unchanged t stretch few n from before cs step fit BBSY (is_changed-untouched cs BBSY h refl)

  -- at a step that changes no line of the arbitration bus BBSY doesn't rise
  pub rises_between-busy_untouched : rises_between (levels_at t n) (levels_at t (suc n)) BBSY ≡ false
  rises_between-busy_untouched =
      rises_between-unchanged t stretch few n from before cs step fit BBSY (is_changed-untouched cs BBSY h refl)

-- no rule is broken at a step that breaks none of G1 to G4, in which the arbiter begins no grant, BBSY* doesn't fall,
-- and no cycle starts while the bus isn't busy
pub step_fault-none : (v w : Levels) (requests now : LevelSet) (granted : Bool) (nets : Option Fault)
    (grants takes ungranted ends unowned : Bool) (taken : Option BusGrant)
    → nets ≡ None → grants ≡ false → takes ≡ false → unowned ≡ false
    → step_fault v w requests granted (record {
      net_fault = nets;
      requests = now;
      grants = grants;
      busy_falls = takes;
      busy_ungranted = takes && ungranted;
      tenure = cond takes taken None;
      busy_rises = ends;
      cycle_unowned = unowned;
    }) ≡ None
step_fault-none v w requests now granted nets grants takes ungranted ends unowned taken a b c d = rw (a, b, c, d) refl
