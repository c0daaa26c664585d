-- A line has another level after a step exactly if it is among the step's changes.
use Rattle.std.proofs.Common.{◌≡◌, ℕ, ◌+◌, ◌<◌, Bool, true, false, ◌||◌, not, List, [], ◌∷◌, refl, sym, ◌∙◌, ap}
use Rattle.std.proofs.Common.{arith, length, subst}
use Rattle.std.specs.Prelude.{◌==◌, slice_set}
use Rattle.std.proofs.lemmas.List.{length-set, get_or-set_same}
use Rattle.std.proofs.lemmas.Option.{unwrap_or-slice_get}
use Rattle.std.proofs.lemmas.Bool.{and_parts, not-true, eqb-true}
use Rattle.vme_trace.specs.Levels.{Levels, level_at, set_level, same_level}
use Rattle.vme_trace.specs.Trace.{changed}
use Rattle.vme_trace.specs.WellFormed.{are_changes}
use Rattle.vme_trace.specs.Changes.{is_changed}
use Rattle.vme_trace.specs.declared.level.Level.{Level}
use Rattle.vme_trace.specs.declared.level.Level.TheVariants.{Low, High, Unknown}
use Rattle.vme_trace.specs.declared.step.Change.{Change}
use Rattle.vme_trace.proofs.Changing.{is_changed-below, level-kept}

-- if a or b is true, and a false, b is true
or-false_first : (a b : Bool) → (a || b) ≡ true → a ≡ false → b ≡ true
or-false_first true b h e = absurd (cc)
or-false_first false b h e = h

-- k is below k + 1
lt-self_next : (k : ℕ) → k < k + 1
lt-self_next k = omega arith

-- a level is the same as itself
pub same_level-refl : (x : Level) → same_level x x ≡ true
same_level-refl Low = refl
same_level-refl High = refl
same_level-refl Unknown = refl

-- a line that is set has its new level
level_at-set_level : (v : Levels) (l : ℕ) (x : Level) → l < length v.levels → level_at (set_level v l x) l ≡ x
level_at-set_level v l x h = unwrap_or-slice_get (slice_set v.levels l x) l Unknown
    ∙ get_or-set_same v.levels l x Unknown h

-- a line of the first change c gets another level than it had in v, and any other line does if it does by the rest of
-- the changes
same_level-set : (v u : Levels) (c : Change) (cs : List Change) (l : ℕ) (b : Bool) → (c.line == l) ≡ b
    → same_level (level_at v c.line) c.level ≡ false → is_changed cs c.line ≡ false → l < length u.levels
    → (b ≡ false → same_level (level_at v l) (level_at (changed (set_level u c.line c.level) cs) l) ≡ false)
    → same_level (level_at v l) (level_at (changed (set_level u c.line c.level) cs) l) ≡ false
same_level-set v u c cs l false e differs later inside rest = rest refl
same_level-set v u c cs l true e differs later inside rest =
    let same : c.line ≡ l = eqb-true c.line l e in
    subst (λ k. same_level (level_at v k) (level_at (changed (set_level u c.line c.level) cs) k) ≡ false) same
    (ap (same_level (level_at v c.line)) (level-kept (set_level u c.line c.level) cs c.line later
    ∙ level_at-set_level u c.line
    c.level (subst (λ k. k < length u.levels) (sym same) inside)) ∙ differs)

-- a changed line gets another level than it had
same_level-changed : (v u : Levels) (lowest : ℕ) (cs : List Change) (l : ℕ) → are_changes v lowest cs ≡ true
    → is_changed cs l ≡ true → l < length u.levels → same_level (level_at v l) (level_at (changed u cs) l) ≡ false
unfolding are_changes changed
same_level-changed v u lowest [] l h k inside = absurd (cc)
same_level-changed v u lowest (c ∷ cs) l h k inside =
    let parts = and_parts _ _ h in
    same_level-set v u c cs l (c.line == l) refl (not-true _ (and_parts _ _ parts.0).1)
    (is_changed-below v (c.line + 1) c.line cs parts.1 (lt-self_next c.line)) inside
    (λ e. same_level-changed v (set_level u c.line c.level) (c.line + 1) cs l parts.1
    (or-false_first (c.line == l) (is_changed cs l) k e) (subst (λ k. l < k) (sym (length-set u.levels c.line c.level))
    inside))

-- a line has another level after the changes exactly if it is among them
pub is_changed-edge : (v : Levels) (cs : List Change) (l : ℕ) → are_changes v 0 cs ≡ true → l < length v.levels
    → not (same_level (level_at v l) (level_at (changed v cs) l)) ≡ is_changed cs l
is_changed-edge v cs l h inside = by_test (is_changed cs l) refl
  where
    by_test : (b : Bool) → is_changed cs l ≡ b → not (same_level (level_at v l) (level_at (changed v cs) l)) ≡ b
    by_test true e = ap not (same_level-changed v v 0 cs l h e inside)
    by_test false e = rw (level-kept v cs l e) (ap not (same_level-refl (level_at v l)))
