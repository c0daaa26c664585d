-- The step between two sets of levels leads from the one to the other, and may follow the first.
use Rattle.std.proofs.Common.{◌≡◌, ◌≢◌, ℕ, zero, suc, ◌+◌, ◌<◌, ◌≤◌, Bool, true, false, cond, not, ◌&&◌, ◌||◌, List, []}
use Rattle.std.proofs.Common.{◌∷◌, ◌++◌, length, map, refl, sym, ap, ◌∙◌, arith, inl, inr}
use Rattle.std.specs.Prelude.{nat_le, nat_lt, ◌==◌}
use Rattle.std.proofs.lemmas.Bool.{and_parts, eqb-true, le-leb, leb-true, lt-ltb, ltb-true, not-true, or_cases, or_from}
use Rattle.std.proofs.lemmas.Bool.{false≢true}
use Rattle.std.proofs.lemmas.Bool.Decides.{nat_tests}
use Rattle.std.proofs.lemmas.List.{length-map}
use Rattle.vme_trace.specs.Changes.{is_changed}
use Rattle.vme_trace.specs.Instants.{any, those}
use Rattle.vme_trace.specs.Levels.{Levels, level_at, set_level, same_level}
use Rattle.vme_trace.specs.LineNumbers.{D, grant, grant_place, has_line, iack, is_grant, is_slot_iack, line_count}
use Rattle.vme_trace.specs.Trace.{changed, levels_after}
use Rattle.vme_trace.specs.WellFormed.{are_changes, is_empty, may_follow}
use Rattle.vme_trace.specs.declared.level.Level.{Level}
use Rattle.vme_trace.specs.declared.step.Change.{Change}
use Rattle.vme_trace.specs.declared.step.Step.{Step}
use Rattle.vme_trace.proofs.Changing.{slots-kept, level-kept}
use Rattle.vme_trace.proofs.Ranges.{any-fails, fails-any, those-next, those-none, those-split}
use Rattle.vme_bind.specs.Recording.{differs, change_to, changes_between, step_between}
use Rattle.vme_bind.proofs.RecorderLemmas.{no_difference_at, same_levels, same_unless_differs, level_at-set_same}
use Rattle.vme_bind.proofs.RecorderLemmas.{level_at-set_other}
use Rattle.vme_bind.proofs.RecorderLemmas.{length-set_level}
use Rattle.vme_bind.proofs.CaptureLemmas.{level_at-changed_those, length-changed}
use Rattle.vme_bind.proofs.EndLemmas.{one_step}
use Rattle.vme_bind.proofs.StepsLemmas.{length-those_positive}

-- ---- from levels to the same levels

-- no line differs between levels and the same levels
differs-same : (v : Levels) (l : ℕ) → differs v v l ≡ false
differs-same v l = no_difference_at v v l refl

-- no line differs between levels and the same levels
any_differs-same : (v : Levels) → any (differs v v) 0 line_count ≡ false
any_differs-same v = fails-any (differs v v) 0 line_count (λ l low lt. differs-same v l)

-- there is no step from levels to the same levels
pub step_between-same : (time : ℕ) (v : Levels) → step_between time v v ≡ []
step_between-same time v = by_test (any (differs v v) 0 line_count) (any_differs-same v)
  where
    by_test : (b : Bool) → b ≡ false → cond b (one_step time (changes_between v v)) [] ≡ []
    by_test false e = refl
    by_test true e = absurd (false≢true (sym e))

-- ---- levels of one backplane

-- v and w are both the levels of all lines, with the same number of slots
pub record AreOfOne (v w : Levels) : Type 0 where
  pub slots : v.slots ≡ w.slots
  pub first : length v.levels ≡ line_count
  pub second : length w.levels ≡ line_count

-- levels that differ on no line are equal
pub equal-no_difference : (v w : Levels) → AreOfOne v w → any (differs v w) 0 line_count ≡ false → v ≡ w
equal-no_difference v w one none =
    same_levels v w one.slots one.first one.second
    (λ l lt. same_unless_differs v w l (any-fails (differs v w) 0 line_count l none (omega arith) lt))

-- the changes between `v` and `w` lead from `v` to `w`
pub changed-changes_between : (v w : Levels) → AreOfOne v w → changed v (changes_between v w) ≡ w
changed-changes_between v w one =
    same_levels (changed v (changes_between v w)) w (slots-kept v (changes_between v w) ∙ one.slots)
    (length-changed v (changes_between v w) ∙ one.first) one.second
    (λ l lt.
    level_at-changed_those (differs v w) (level_at w) v line_count (omega (arith, one.first)) l
    ∙ by_test (nat_lt l line_count) (differs v w l) l (lt-ltb l line_count lt) refl)
  where
    by_test : (a b : Bool) (l : ℕ) → a ≡ true → differs v w l ≡ b → cond (a && b) (level_at w l) (level_at v l)
        ≡ level_at w l
    by_test true true l e h = refl
    by_test true false l e h = same_unless_differs v w l h
    by_test false b l e h = absurd (false≢true e)

-- the step between `v` and `w`, if there is one, leads from `v` to `w`
pub levels_after-step_between : (time : ℕ) (v w : Levels) → AreOfOne v w → levels_after v (step_between time v w) ≡ w
levels_after-step_between time v w one = by_test (any (differs v w) 0 line_count) refl
  where
    by_test : (b : Bool) → any (differs v w) 0 line_count ≡ b
        → levels_after v (cond b (one_step time (changes_between v w)) []) ≡ w
    by_test true e = changed-changes_between v w one
    by_test false e = equal-no_difference v w one e

-- ---- changes that lead from some levels to others

-- the parts of a conjunction of four tests that holds hold
and-four_parts : (a b c d : Bool) → (a && b && c && d) ≡ true → (a ≡ true) × (b ≡ true) × (c ≡ true) × (d ≡ true)
and-four_parts true true true true h = (refl, refl, refl, refl)
and-four_parts true true true false h = absurd cc
and-four_parts true true false d h = absurd cc
and-four_parts true false c d h = absurd cc
and-four_parts false b c d h = absurd cc

-- a number isn't equal to a lesser one
eq-lesser_number : (m l : ℕ) → l < m → (m == l) ≡ false
eq-lesser_number m l lt = grind (arith, nat_tests)

-- what holds of the first of some changes of lines from k on, and of those after it
pub record AreChangesFrom (v : Levels) (k : ℕ) (c : Change) (cs : List Change) : Type 0 where
  pub from : k ≤ c.line
  pub exists : has_line v.slots c.line ≡ true
  pub other : same_level (level_at v c.line) c.level ≡ false
  pub rest : are_changes v (c.line + 1) cs ≡ true

-- changes that may be made meet each part of the test
pub AreChangesFrom-are_changes : (v : Levels) (k : ℕ) (c : Change) (cs : List Change) → are_changes v k (c ∷ cs) ≡ true
    → AreChangesFrom v k c cs
unfolding are_changes
AreChangesFrom-are_changes v k c cs h =
    let parts = and-four_parts (nat_le k c.line) (has_line v.slots c.line)
    (not (same_level (level_at v c.line) c.level))
    (are_changes v (c.line + 1) cs) h in
    record {
      from = leb-true k c.line parts.0;
      exists = parts.1;
      other = not-true (same_level (level_at v c.line) c.level) parts.2;
      rest = parts.3;
    }

-- no line below `k` changes
pub is_changed-below : (v : Levels) (k : ℕ) (cs : List Change) (l : ℕ) → are_changes v k cs ≡ true → l < k
    → is_changed cs l
    ≡ false
is_changed-below v k [] l h lt = refl
is_changed-below v k (c ∷ cs) l h lt =
    let is = AreChangesFrom-are_changes v k c cs h in
    or_from (c.line == l) (is_changed cs l) (eq-lesser_number c.line l (omega (arith, is.from, lt)))
    (is_changed-below v (c.line + 1) cs l is.rest (omega (arith, is.from, lt)))

-- a line that changes exists
pub has_line-is_changed : (v : Levels) (k : ℕ) (cs : List Change) (l : ℕ) → are_changes v k cs ≡ true → is_changed cs l
    ≡ true → has_line v.slots l ≡ true
has_line-is_changed v k [] l h is' = absurd (false≢true is')
has_line-is_changed v k (c ∷ cs) l h is' =
    let is = AreChangesFrom-are_changes v k c cs h in
    elim (or_cases (c.line == l) (is_changed cs l) is') [
      | inl e ↦ ap (has_line v.slots) (sym (eqb-true c.line l e)) ∙ is.exists
      | inr later ↦ has_line-is_changed v (c.line + 1) cs l is.rest later
    ]

-- a line that exists has a number below `line_count`
pub below-has_line : (slots l : ℕ) → has_line slots l ≡ true → l < line_count
below-has_line slots l h = by_tests (nat_lt l (grant 0 0)) (is_grant l) (is_slot_iack l) refl refl refl h
  where
    by_tests : (a b c : Bool) → nat_lt l (grant 0 0) ≡ a → is_grant l ≡ b → is_slot_iack l ≡ c
        → cond a true (cond b (nat_le (grant_place l) slots) (cond c (nat_le l (iack slots)) (nat_lt l line_count)))
        ≡ true → l < line_count
    by_tests true b c is_low is_grant_net is_iack h = omega (arith, ltb-true l (grant 0 0) is_low)
    by_tests false true c is_low is_grant_net is_iack h = omega
        (arith, ltb-true l (iack 1) (and_parts (nat_le (grant 0 0) l) (nat_lt l (iack 1)) is_grant_net).1)
    by_tests false false true is_low is_grant_net is_iack h = omega
        (arith, ltb-true l (D 0) (and_parts (nat_le (iack 1) l) (nat_lt l (D 0)) is_iack).1)
    by_tests false false false is_low is_grant_net is_iack h = ltb-true l line_count h

-- The changes `cs` from `v` are the changes between `v` and the levels to which they lead. These are made from `u`,
-- which is `v` on the lines from `k` on.
changes_between-changed_from : (u v : Levels) (k : ℕ) (cs : List Change) → length u.levels ≡ line_count
    → ((l : ℕ) → k ≤ l → level_at u l ≡ level_at v l)
    → are_changes v k cs ≡ true → map (change_to (changed u cs)) (those (differs v (changed u cs)) k line_count) ≡ cs
unfolding changed
changes_between-changed_from u v k [] whole same h =
    ap (map (change_to u)) (those-none (differs v u) k line_count (fails-any (differs v u) k line_count
    (λ l low lt. no_difference_at v u l (sym (same l low)))))
changes_between-changed_from u v k (c ∷ cs) whole same h =
    let is = AreChangesFrom-are_changes v k c cs h in
    let next : Levels = set_level u c.line c.level in
    let end : Levels = changed next cs in
    let below : c.line < line_count = below-has_line v.slots c.line is.exists in
    let here : level_at end c.line ≡ c.level =
    level-kept next cs c.line (is_changed-below v (c.line + 1) cs c.line is.rest (omega arith))
    ∙ level_at-set_same u c.line c.level
    (omega (arith, below, whole)) in
    let no_difference_below = λ (l : ℕ) (low : k ≤ l) (lt : l < c.line).
    let ne : l ≢ c.line = omega (arith, lt) in
    no_difference_at v end l
    (sym (level-kept next cs l (is_changed-below v (c.line + 1) cs l is.rest (omega (arith, lt)))
    ∙ level_at-set_other u c.line l c.level ne ∙ same l low)) in
    let differs_here : differs v end c.line ≡ true = ap (λ (x : Level). not (same_level (level_at v c.line) x)) here
    ∙ ap not is.other in
    let first : those (differs v end) k line_count ≡ c.line ∷ those (differs v end) (c.line + 1) line_count =
    those-next (differs v end) k line_count c.line is.from below differs_here
    (fails-any (differs v end) k c.line no_difference_below)
    in
    ap (map (change_to end)) first
    ∙ ap (λ (x : Level). to_level c.line x ∷ map (change_to end) (those (differs v end) (c.line + 1) line_count)) here
    ∙ ap (λ (ds : List Change). c ∷ ds)
    (changes_between-changed_from next v (c.line + 1) cs (length-set_level u c.line c.level whole)
    (λ l low. let ne : l ≢ c.line = omega (arith, low) in level_at-set_other u c.line l c.level ne
    ∙ same l (omega (arith, low, is.from))) is.rest)
  where
    to_level : ℕ → Level → Change
    to_level l x = record { line = l; level = x }

-- a step that may follow is the step between the levels before it and those after it
pub step_between-changed : (time : ℕ) (v : Levels) (cs : List Change) → length v.levels ≡ line_count
    → are_changes v 0 cs ≡ true
    → is_empty cs ≡ false
    → step_between time v (changed v cs) ≡ one_step time cs
step_between-changed time v cs whole h some = by_test (any (differs v (changed v cs)) 0 line_count) refl
  where
    again : changes_between v (changed v cs) ≡ cs
    again = changes_between-changed_from v v 0 cs whole (λ l low. refl) h

    empty : (ds : List Change) → ds ≡ [] → is_empty ds ≡ true
    empty ds e = ap is_empty e

    by_test : (b : Bool) → any (differs v (changed v cs)) 0 line_count ≡ b
        → cond b (one_step time (changes_between v (changed v cs))) [] ≡ one_step time cs
    by_test true e = ap (one_step time) again
    by_test false e =
        let none : cs ≡ [] = sym again ∙ ap (map (change_to (changed v cs))) (those-none (differs v (changed v cs)) 0
        line_count e) in
        absurd (false≢true (sym some ∙ empty cs none))

-- ---- the step between two sets of levels may follow the first

-- a step can lead from `v` to `w`: the lines on which they differ exist
pub record Leads (v w : Levels) : Type 0 where
  pub one : AreOfOne v w
  pub exist : (l : ℕ) → differs v w l ≡ true → has_line v.slots l ≡ true

-- a list of changes whose length is above 0 isn't empty
is_empty-false : (cs : List Change) → 0 < length cs → is_empty cs ≡ false
is_empty-false [] h = absurd (omega (arith, h))
is_empty-false (c ∷ cs) h = refl

-- a step that isn't empty, whose changes may be made from `v`, may follow n others if n is 0 or it is later than
-- `clock`
may_follow-changes : (v : Levels) (n clock : ℕ) (step : Step) → ((n == 0) || nat_lt clock step.time) ≡ true
    → is_empty step.changes
    ≡ false → are_changes v 0 step.changes ≡ true → may_follow v n clock step ≡ true
may_follow-changes v n clock step a b c = rw (a, b, c) refl

-- a conjunction of four tests, of which the third is negated, holds if its parts do
and-four_with_not : (a b c d : Bool) → a ≡ true → b ≡ true → c ≡ false → d ≡ true → (a && b && not c && d) ≡ true
and-four_with_not a b c d e f g h = rw (e, f, g, h) refl

-- changes of lines from `k + 1` on are changes of lines from `k` on
are_changes-lower : (v : Levels) (k : ℕ) (cs : List Change) → are_changes v (k + 1) cs ≡ true → are_changes v k cs
    ≡ true
unfolding are_changes
are_changes-lower v k [] h = refl
are_changes-lower v k (c ∷ cs) h =
    let is = AreChangesFrom-are_changes v (k + 1) c cs h in
    and-four_with_not (nat_le k c.line) (has_line v.slots c.line) (same_level (level_at v c.line) c.level)
    (are_changes v (c.line + 1) cs)
    (le-leb k c.line (omega (arith, is.from))) is.exists is.other is.rest

-- the changes between `v` and `w`, on the lines from `k` on, may be made
are_changes-between : (v w : Levels) → Leads v w → (d k : ℕ) → k + d ≡ line_count → are_changes v k
    (map (change_to w) (those (differs v w) k line_count)) ≡ true
unfolding are_changes
are_changes-between v w leads zero k e =
    let end : k ≡ line_count = omega (arith, e) in
    ap (λ (ls : List ℕ). are_changes v k (map (change_to w) ls)) (those-none (differs v w) k line_count
    (fails-any (differs v w) k line_count (λ l low lt. absurd (omega (arith, low, lt, end)))))
are_changes-between v w leads (suc d) k e =
    by_test (differs v w k) refl (are_changes-between v w leads d (k + 1) (omega (arith, e)))
  where
    rest : List Change
    rest = map (change_to w) (those (differs v w) (k + 1) line_count)

    none_before : any (differs v w) k k ≡ false
    none_before = fails-any (differs v w) k k (λ l low lt. absurd (omega (arith, low, lt)))

    by_test : (b : Bool) → differs v w k ≡ b → are_changes v (k + 1) rest ≡ true → are_changes v k
        (map (change_to w) (those (differs v w) k line_count)) ≡ true
    by_test true h so_far =
        ap (λ (ls : List ℕ). are_changes v k (map (change_to w) ls)) (those-next (differs v w) k line_count k
        (omega arith) (omega (arith, e)) h none_before)
        ∙ and-four_with_not (nat_le k k) (has_line v.slots k) (same_level (level_at v k) (level_at w k))
        (are_changes v (k + 1) rest)
        (le-leb k k (omega arith)) (leads.exist k h) (not-true (same_level (level_at v k) (level_at w k)) h) so_far
    by_test false h so_far =
        let only : any (differs v w) k (k + 1) ≡ false =
        fails-any (differs v w) k (k + 1) (λ l low lt. let here : l ≡ k = omega (arith, low, lt) in
        ap (differs v w) here ∙ h) in
        let is : those (differs v w) k line_count ≡ those (differs v w) (k + 1) line_count =
        those-split (differs v w) k (k + 1) line_count (omega arith) (omega (arith, e))
        ∙ ap (λ (ls : List ℕ). ls ++ those (differs v w) (k + 1) line_count) (those-none (differs v w) k (k + 1) only)
        in
        ap (λ (ls : List ℕ). are_changes v k (map (change_to w) ls)) is ∙ are_changes-lower v k rest so_far

-- the step between `v` and `w`, which differ, may follow n steps that lead to `v`, if n is 0 or it is later than
-- `clock`
pub may_follow-between : (v w : Levels) (n clock time : ℕ) → Leads v w → any (differs v w) 0 line_count ≡ true
    → ((n == 0) || nat_lt clock time) ≡ true
    → may_follow v n clock (record { time = time; changes = changes_between v w }) ≡ true
may_follow-between v w n clock time leads some later =
    may_follow-changes v n clock (record { time = time; changes = changes_between v w }) later
    (is_empty-false (changes_between v w) (omega (
      arith,
      length-map (those (differs v w) 0 line_count) (change_to w),
      length-those_positive (differs v w) line_count some,
    )))
    (are_changes-between v w leads line_count 0 refl)
