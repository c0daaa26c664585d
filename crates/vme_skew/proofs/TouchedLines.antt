-- Showing the lines that a group touched, in the order of their numbers, gives the changes from the levels before the
-- group to those after it.
use Rattle.std.proofs.Common.{◌≡◌, ◌≢◌, ℕ, zero, suc, ◌+◌, ◌<◌, ◌≤◌, true, false, not, List, [], ◌∷◌, ◌++◌}
use Rattle.std.proofs.Common.{length, map, get_or, refl, sym, ap, ◌∙◌, subst, arith, inl, inr, ◌⊎◌}
use Rattle.std.specs.Prelude.{All, Contains}
use Rattle.std.specs.List.Sorted.{IsNonDecreasing, IsPermutation}
use Rattle.std.proofs.lemmas.Bool.{cases_Bool, cases_lt, cases_eq, false≢true, not_from_false}
use Rattle.std.proofs.lemmas.List.{get_or_default, map_push}
use Rattle.std.proofs.lemmas.List.Elements.{All-append, All-cons, All-nil, Contains-append_left, Contains-append_right}
use Rattle.std.proofs.lemmas.List.Sorted.{All-permutation, Contains-permutation}
use Rattle.vme_trace.specs.Instants.{those}
use Rattle.vme_trace.specs.Levels.{Levels, level_at, set_level, same_level}
use Rattle.vme_trace.specs.LineNumbers.{line_count}
use Rattle.vme_trace.specs.declared.level.Level.{Level}
use Rattle.vme_trace.specs.declared.step.Change.{Change}
use Rattle.vme_bind.specs.Recording.{IsLine, differs, change_to, changes_between}
use Rattle.vme_bind.proofs.RecorderLemmas.{same_level-refl, same_level-is, no_difference_at, same_unless_differs}
use Rattle.vme_bind.proofs.RecorderLemmas.{level_at-set_same, level_at-set_other, length-set_level, same_levels}
use Rattle.vme_bind.proofs.RecorderLemmas.{those-yes, those-skip}
use Rattle.vme_skew.specs.Group.{ListsTouchedLines}

-- ---- the lines that were touched

-- the touched lines are still listed after a line gets any level, if it is added to the list
pub ListsTouchedLines-set : (before now : Levels) (touched : List ℕ) (m : ℕ) (x : Level)
    → ListsTouchedLines before now touched
    → IsLine before.slots m → ListsTouchedLines before (set_level now m x) (touched ++ m ∷ [])
ListsTouchedLines-set before now touched m x h line = record {
  slots = h.slots;
  before_all = h.before_all;
  now_all = length-set_level now m x h.now_all;
  lines = All-append (IsLine before.slots) touched (m ∷ []) h.lines (All-cons (IsLine before.slots) m [] line
      (All-nil (IsLine before.slots)));
  listed = λ l d. elim (cases_eq l m) [
    | inl e ↦ Contains-append_right touched (m ∷ []) l (subst (Contains (m ∷ [])) (sym e) (0, omega arith, refl))
    | inr ne ↦ Contains-append_left touched (m ∷ []) l
        (h.listed l (ap (λ (y : Level). not (same_level (level_at before l) y)) (sym (level_at-set_other now m l x ne))
        ∙ d))
  ];
}

-- the touched lines may be listed in any order
pub ListsTouchedLines-permuted : (before now : Levels) (touched others : List ℕ) → ListsTouchedLines before now touched
    → IsPermutation touched others → ListsTouchedLines before now others
ListsTouchedLines-permuted before now touched others h p = record {
  slots = h.slots;
  before_all = h.before_all;
  now_all = h.now_all;
  lines = All-permutation (IsLine before.slots) touched others p h.lines;
  listed = λ l d. Contains-permutation touched others l p (h.listed l d);
}

-- where nothing has changed, no line has to be listed
pub ListsTouchedLines-same : (before now : Levels) → before ≡ now
    → length now.levels ≡ line_count → ListsTouchedLines before now []
ListsTouchedLines-same before now e all = record {
  slots = ap (λ (v : Levels). v.slots) (sym e);
  before_all = ap (λ (v : Levels). length v.levels) e ∙ all;
  now_all = all;
  lines = All-nil (IsLine before.slots);
  listed = λ l d. absurd (false≢true (sym (no_difference_at before now l (ap (λ (v : Levels). level_at v l) e)) ∙ d));
}

-- ---- showing the touched lines in the order of their numbers

-- one past the line before place i
abbrev pub bound : List ℕ → ℕ → ℕ
bound touched zero = 0
bound touched (suc i) = get_or touched i 0 + 1

-- the lines below the bound are shown: `shown` has their levels of `now`, and `changes` are their changes
pub record AreShown (touched : List ℕ) (i : ℕ) (before now shown : Levels) (changes : List Change) : Type 0 where
  pub slots : now.slots ≡ shown.slots
  pub shown_all : length shown.levels ≡ line_count
  pub changes_are : changes ≡ map (change_to now) (those (differs before now) 0 (bound touched i))
  pub below : (l : ℕ) → l < bound touched i → level_at shown l ≡ level_at now l
  pub above : (l : ℕ) → bound touched i ≤ l → level_at shown l ≡ level_at before l

-- a touched line is either before place i, and then below the bound, or at least the line at i
place_cases : (touched : List ℕ) (i k l : ℕ) → IsNonDecreasing touched → k < length touched → get_or touched k l ≡ l
    → i < length touched → (l < bound touched i) ⊎ (get_or touched i 0 ≤ l)
place_cases touched zero k l sorted lt e here = inr (omega (
  arith,
  sorted 0 k 0 (omega arith) lt,
  get_or_default touched
      k 0 l lt,
  e,
))
place_cases touched (suc i) k l sorted lt e here =
    elim (cases_lt k (suc i)) [
      | inl less ↦ inl (omega (arith, sorted k i 0 (omega arith) (omega arith), get_or_default touched k 0 l lt, e))
      | inr more ↦ inr (omega (arith, sorted (suc i) k 0 (omega arith) lt, get_or_default touched k 0 l lt, e))
    ]

-- between the bound and the next touched line no line differs
differs-before_touched : (before now : Levels) (touched : List ℕ) (i l : ℕ) → IsNonDecreasing touched
    → ListsTouchedLines before
    now touched → i < length touched → bound touched i ≤ l → l < get_or touched i 0 → differs before now l ≡ false
differs-before_touched before now touched i l sorted h here low high =
    elim (cases_Bool (differs before now l)) [
      | inl d ↦
          let in' = h.listed l d in
          elim (place_cases touched i in'.0 l sorted in'.1 in'.2 here) [
            | inl less ↦ absurd (omega arith)
            | inr more ↦ absurd (omega arith)
          ]
      | inr none ↦ none
    ]

-- the bound at place i is at most one past the line at i
bound-at_most : (touched : List ℕ) (i : ℕ) → IsNonDecreasing touched → i < length touched
    → bound touched i ≤ get_or touched
    i 0 + 1
bound-at_most touched zero sorted here = omega arith
bound-at_most touched (suc i) sorted here = omega (arith, sorted i (suc i) 0 (omega arith) here)

-- the bound at place i + 1 is one past the line at i
bound-next : (touched : List ℕ) (i : ℕ) → bound touched (i + 1) ≡ get_or touched i 0 + 1
bound-next touched i = let more : i + 1 ≡ suc i = omega arith in ap (bound touched) more

-- after the last touched line no line differs
differs-after_touched : (before now : Levels) (touched : List ℕ) (i l : ℕ) → IsNonDecreasing touched
    → ListsTouchedLines before
    now touched → length touched ≤ i → i ≤ length touched → bound touched i ≤ l → differs before now l ≡ false
differs-after_touched before now touched i l sorted h past le low =
    elim (cases_Bool (differs before now l)) [
      | inl d ↦ let in' = h.listed l d in absurd (at_end i le past low in'.0 in'.1 in'.2)
      | inr none ↦ none
    ]
  where
    at_end : (i : ℕ) → i ≤ length touched → length touched ≤ i → bound touched i ≤ l → (k : ℕ) → k < length touched
        → get_or touched k l ≡ l → ⊥
    at_end zero le past low k lt e = omega arith
    at_end (suc i) le past low k lt e = omega (
      arith,
      sorted k i 0 (omega arith) (omega arith),
      get_or_default touched k
          0 l lt,
      e,
    )

-- before the first touched line, no line is shown
pub AreShown-none : (touched : List ℕ) (before now : Levels) → ListsTouchedLines before now touched → AreShown touched 0
    before now before []
unfolding those
AreShown-none touched before now h = record {
  slots = h.slots;
  shown_all = h.before_all;
  changes_are = refl;
  below = λ l lt. absurd (omega (arith, lt));
  above = λ l le. refl;
}

-- `AreShown` holds at the next place where the line at place i has the level that is shown, and so needs no change
pub AreShown-same : (touched : List ℕ) (i : ℕ) (before now shown : Levels) (changes : List Change) → IsNonDecreasing
    touched → ListsTouchedLines before now touched → i < length touched
    → same_level (level_at shown (get_or touched i 0)) (level_at now (get_or touched i 0)) ≡ true
    → AreShown touched i before now shown changes → AreShown touched (i + 1) before now shown changes
AreShown-same touched i before now shown changes sorted t here same h =
    let x : ℕ = get_or touched i 0 in
    let low : bound touched i ≤ get_or touched i 0 + 1 = bound-at_most touched i sorted here in
    let next : bound touched (i + 1) ≡ get_or touched i 0 + 1 = bound-next touched i in
    let is : level_at shown (get_or touched i 0) ≡ level_at now (get_or touched i 0) = same_level-is _ _ same in
    let no_difference : (l : ℕ) → bound touched i ≤ l → l < get_or touched i 0 + 1 → differs before now l ≡ false =
    λ l le lt. elim (cases_lt l (get_or touched i 0)) [
      | inl less ↦ differs-before_touched before now touched i l sorted t here le less
      | inr more ↦
          let e : l ≡ get_or touched i 0 = omega (arith, lt, more) in
          no_difference_at before now l (sym (h.above l le) ∙ ap (level_at shown) e ∙ is ∙ ap (level_at now) (sym e))
    ] in
    record {
      slots = h.slots;
      shown_all = h.shown_all;
      changes_are = h.changes_are ∙ ap (map (change_to now))
          (sym (those-skip (differs before now) (bound touched i) (get_or touched i 0 + 1) low no_difference)
          ∙ ap (those (differs before now) 0) (sym next));
      below = λ l lt. elim (cases_lt l (bound touched i)) [
        | inl less ↦ h.below l less
        | inr more ↦ h.above l more ∙ same_unless_differs before now l (no_difference l more (omega (arith, lt, next)))
      ];
      above = λ l le. h.above l (omega (arith, le, next, low));
    }

-- `AreShown` holds at the next place after the line at place i, which has another level than is shown, is changed
pub AreShown-changed : (touched : List ℕ) (i : ℕ) (before now shown : Levels) (changes : List Change) → IsNonDecreasing
    touched → ListsTouchedLines before now touched → i < length touched
    → same_level (level_at shown (get_or touched i 0)) (level_at now (get_or touched i 0)) ≡ false
    → AreShown touched i before now shown changes
    → AreShown touched (i + 1) before now (set_level shown (get_or touched i 0) (level_at now (get_or touched i 0)))
    (changes ++ change_to now (get_or touched i 0) ∷ [])
AreShown-changed touched i before now shown changes sorted t here other h =
    let low : bound touched i ≤ get_or touched i 0 =
    elim (cases_lt (get_or touched i 0) (bound touched i)) [
      | inl less ↦ absurd (false≢true (sym other ∙ ap (λ (y : Level). same_level y (level_at now (get_or touched i 0)))
          (h.below _ less) ∙ same_level-refl (level_at now (get_or touched i 0))))
      | inr more ↦ more
    ] in
    let next : bound touched (i + 1) ≡ get_or touched i 0 + 1 = bound-next touched i in
    let line = t.lines i 0 here in
    let d : differs before now (get_or touched i 0) ≡ true = not_from_false _
    (ap (λ (y : Level). same_level y (level_at now (get_or touched i 0))) (sym (h.above _ low)) ∙ other) in
    let no_difference = λ (l : ℕ) (le : bound touched i ≤ l) (lt : l < get_or touched i 0). differs-before_touched
    before now touched i l
    sorted t here le lt in
    record {
      slots = h.slots;
      shown_all = length-set_level shown (get_or touched i 0) (level_at now (get_or touched i 0)) h.shown_all;
      changes_are =
          ap (λ (cs : List Change). cs ++ change_to now (get_or touched i 0) ∷ [])
          (h.changes_are ∙ ap (map (change_to now))
          (sym (those-skip (differs before now) (bound touched i) (get_or touched i 0) low no_difference)))
          ∙ sym (map_push (change_to now) (those (differs before now) 0 (get_or touched i 0)) (get_or touched i 0))
          ∙ ap (map (change_to now)) (sym (those-yes (differs before now) (get_or touched i 0) d)
          ∙ ap (those (differs before now) 0) (sym next));
      below = λ l lt. elim (cases_eq l (get_or touched i 0)) [
        | inl e ↦ ap (level_at (set_level shown (get_or touched i 0) (level_at now (get_or touched i 0)))) e
            ∙ level_at-set_same shown (get_or touched i 0) _ (omega (arith, line.below, h.shown_all))
            ∙ ap (level_at now) (sym e)
        | inr ne ↦ level_at-set_other shown (get_or touched i 0) l _ ne ∙ elim (cases_lt l (bound touched i)) [
          | inl less ↦ h.below l less
          | inr more ↦ h.above l more ∙ same_unless_differs before now l
              (no_difference l more (omega (arith, lt, next, ne)))
        ]
      ];
      above = λ l le. let ne : l ≢ get_or touched i 0 = omega (arith, le, next) in
          level_at-set_other shown (get_or touched i 0) l _ ne ∙ h.above l (omega (arith, le, next, low));
    }

-- the lines on which `shown` and `now` differ are still listed
pub ListsTouchedLines-shown : (touched : List ℕ) (i : ℕ) (before now shown : Levels) (changes : List Change)
    → ListsTouchedLines
    before now touched → AreShown touched i before now shown changes → ListsTouchedLines shown now touched
ListsTouchedLines-shown touched i before now shown changes t h = record {
  slots = h.slots;
  before_all = h.shown_all;
  now_all = t.now_all;
  lines = let e : before.slots ≡ shown.slots = sym t.slots ∙ h.slots in subst (λ (s : ℕ). All (IsLine s) touched) e
      t.lines;
  listed = λ l d. elim (cases_lt l (bound touched i)) [
    | inl less ↦ absurd (false≢true (sym (no_difference_at shown now l (h.below l less)) ∙ d))
    | inr more ↦ t.listed l (ap (λ (y : Level). not (same_level y (level_at now l))) (sym (h.above l more)) ∙ d)
  ];
}

-- the bound is at most `line_count`
bound-line_count : (before now : Levels) (touched : List ℕ) (i : ℕ) → ListsTouchedLines before now touched
    → i ≤ length touched → bound touched i ≤ line_count
bound-line_count before now touched zero t le = omega arith
bound-line_count before now touched (suc i) t le = omega (arith, (t.lines i 0 (omega arith)).below)

-- after the last touched line, the changes are those from `before` to `now`
pub AreShown-changes : (touched : List ℕ) (i : ℕ) (before now shown : Levels) (changes : List Change) → IsNonDecreasing
    touched → ListsTouchedLines before now touched → length touched ≤ i → i ≤ length touched → AreShown touched i before
    now shown changes → changes ≡ changes_between before now
AreShown-changes touched i before now shown changes sorted t past le h =
    h.changes_are ∙ ap (map (change_to now))
    (sym (those-skip (differs before now) (bound touched i) line_count (bound-line_count before now touched i t le)
    (λ l low high. differs-after_touched before now touched i l sorted t past le low)))

-- after the last touched line, the levels that are shown are those of `now`
pub AreShown-all : (touched : List ℕ) (i : ℕ) (before now shown : Levels) (changes : List Change)
    → IsNonDecreasing touched
    → ListsTouchedLines before now touched → length touched ≤ i → i ≤ length touched → AreShown touched i before now
    shown
    changes → shown ≡ now
AreShown-all touched i before now shown changes sorted t past le h =
    same_levels shown now (sym h.slots) h.shown_all t.now_all (λ l lt. elim (cases_lt l (bound touched i)) [
      | inl less ↦ h.below l less
      | inr more ↦ h.above l more ∙ same_unless_differs before now l
          (differs-after_touched before now touched i l sorted t past le more)
    ])

-- ---- the same of the line at place `i` that is read with another default

-- the line at place i is that which is read with the default 0
get_or-default_zero : (touched : List ℕ) (i x : ℕ) → i < length touched → x ≡ get_or touched i x → x
    ≡ get_or touched i 0
get_or-default_zero touched i x lt e = e ∙ get_or_default touched i x 0 lt

-- `AreShown` holds at the next place where x, the line at place i, has the level that is shown, and so needs no change
pub AreShown-line_same : (touched : List ℕ) (i : ℕ) (before now shown : Levels) (changes : List Change) (x : ℕ)
    → IsNonDecreasing
    touched → ListsTouchedLines before now touched → i < length touched → x ≡ get_or touched i x
    → same_level (level_at shown x) (level_at now x) ≡ true → AreShown touched i before now shown changes
    → AreShown touched (i + 1) before now shown changes
AreShown-line_same touched i before now shown changes x sorted t here e same h =
    AreShown-same touched i before now shown changes sorted t here
    (subst (λ (y : ℕ). same_level (level_at shown y) (level_at now y) ≡ true) (get_or-default_zero touched i x here e)
    same) h

-- `AreShown` holds at the next place after x, the line at place i, which has another level than is shown, is changed
pub AreShown-line_changed : (touched : List ℕ) (i : ℕ) (before now shown : Levels) (changes : List Change) (x : ℕ)
    → IsNonDecreasing
    touched → ListsTouchedLines before now touched → i < length touched → x ≡ get_or touched i x
    → same_level (level_at shown x) (level_at now x) ≡ false → AreShown touched i before now shown changes
    → AreShown touched (i + 1) before now (set_level shown x (level_at now x)) (changes ++ change_to now x ∷ [])
AreShown-line_changed touched i before now shown changes x sorted t here e other h =
    let is = get_or-default_zero touched i x here e in
    subst (λ (y : ℕ). AreShown touched (i + 1) before now (set_level shown y (level_at now y))
    (changes ++ change_to now y ∷ [])) (sym is)
    (AreShown-changed touched i before now shown changes sorted t here
    (subst (λ (y : ℕ). same_level (level_at shown y) (level_at now y) ≡ false) is other) h)
