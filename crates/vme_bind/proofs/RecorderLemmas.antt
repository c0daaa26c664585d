-- The levels after an instant, those after the one before, and the changes between them, line by line.
use Rattle.std.proofs.Common.{◌≡◌, ◌≢◌, ℕ, zero, suc, ◌+◌, ◌-◌, ◌<◌, ◌≤◌, Bool, true, false, not, List, [], ◌∷◌, ◌++◌}
use Rattle.std.proofs.Common.{length, map, refl, sym, ap, ◌∙◌, subst, arith, add-one, inl, inr}
use Rattle.std.specs.Prelude.{nat_le, slice_set}
use Rattle.std.proofs.lemmas.Bool.{cases_Bool, cases_lt, cases_eq, false≢true, not-false}
use Rattle.std.proofs.lemmas.Bool.Decides.{nat_tests}
use Rattle.std.proofs.lemmas.List.{get_or-set_same, get_or-set_other, get_or_default, same_lists, append-nil}
use Rattle.std.proofs.lemmas.List.{length-set, map_push}
use Rattle.std.proofs.lemmas.Option.{unwrap_or-slice_get}
use Rattle.vme_trace.specs.Instants.{those}
use Rattle.vme_trace.specs.Levels.{Levels, level_at, set_level, same_level}
use Rattle.vme_trace.specs.LineNumbers.{SYSRESET, line_count}
use Rattle.vme_trace.specs.declared.level.Level.{Level}
use Rattle.vme_trace.specs.declared.level.Level.TheVariants.{Low, High, Unknown}
use Rattle.vme_trace.specs.declared.step.Change.{Change}
use Rattle.vme_bind.specs.Recording.{IsLine, differs, DifferWithin, change_to, changes_between}

-- ---- levels

-- a level is the same as itself
pub same_level-refl : (a : Level) → same_level a a ≡ true
same_level-refl Low = refl
same_level-refl High = refl
same_level-refl Unknown = refl

-- levels that the test finds the same are the same
pub same_level-is : (a b : Level) → same_level a b ≡ true → a ≡ b
same_level-is Low Low h = refl
same_level-is High High h = refl
same_level-is Unknown Unknown h = refl
same_level-is a b h = absurd cc

-- a line on which `a` and `b` don't differ has one level
pub same_unless_differs : (a b : Levels) (l : ℕ) → differs a b l ≡ false → level_at a l ≡ level_at b l
same_unless_differs a b l h =
    same_level-is (level_at a l) (level_at b l) (not-false (same_level (level_at a l) (level_at b l)) h)

-- a line that has one level in `a` and `b` doesn't differ
pub no_difference_at : (a b : Levels) (l : ℕ) → level_at a l ≡ level_at b l → differs a b l ≡ false
no_difference_at a b l e = rw e (ap not (same_level-refl (level_at b l)))

-- a line that is set to x has the level x
pub level_at-set_same : (v : Levels) (l : ℕ) (x : Level) → l < length v.levels → level_at (set_level v l x) l ≡ x
level_at-set_same v l x lt = unwrap_or-slice_get (slice_set v.levels l x) l Unknown
    ∙ get_or-set_same v.levels l x Unknown lt

-- a line other than the one that is set keeps its level
pub level_at-set_other : (v : Levels) (m l : ℕ) (x : Level) → l ≢ m → level_at (set_level v m x) l ≡ level_at v l
level_at-set_other v m l x ne = unwrap_or-slice_get (slice_set v.levels m x) l Unknown
    ∙ (get_or-set_other v.levels m l x Unknown ne ∙ sym (unwrap_or-slice_get v.levels l Unknown))

-- setting a line keeps one level for each line
pub length-set_level : (v : Levels) (l : ℕ) (x : Level) → length v.levels ≡ line_count → length (set_level v l x).levels
    ≡ line_count
length-set_level v l x e = length-set v.levels l x ∙ e

-- levels of one backplane with the same level on each line are the same
pub same_levels : (a b : Levels) → a.slots ≡ b.slots → length a.levels ≡ line_count → length b.levels ≡ line_count
    → ((l : ℕ) → l < line_count → level_at a l ≡ level_at b l) → a ≡ b
same_levels a b slots e f h =
    both slots (same_lists a.levels b.levels (e ∙ sym f) (λ k d lt.
    get_or_default a.levels k d Unknown lt ∙ sym (unwrap_or-slice_get a.levels k Unknown) ∙ h k (omega (arith, e, lt))
    ∙ unwrap_or-slice_get b.levels k Unknown ∙ get_or_default b.levels k Unknown d (omega (arith, e, f, lt))))
  where
    with_both : ℕ → List Level → Levels
    with_both s xs = record { slots = s; levels = xs }

    both : a.slots ≡ b.slots → a.levels ≡ b.levels → a ≡ b
    both p q = ap (λ (s : ℕ). with_both s a.levels) p ∙ ap (λ (xs : List Level). with_both b.slots xs) q

-- ---- the lines that may differ

-- a line that differs after the change of another differed before
differs_before : (a b c : Levels) (m l : ℕ) → (l ≡ m → differs a c l ≡ true → ⊥)
    → (l ≢ m → level_at c l ≡ level_at b l) → differs a c l ≡ true → differs a b l ≡ true
differs_before a b c m l same other h =
    elim (cases_eq l m) [
      | inl e ↦ absurd (same e h)
      | inr ne ↦ ap (λ (x : Level). not (same_level (level_at a l) x)) (sym (other ne)) ∙ h
    ]

-- setting a line to the level that is shown keeps the bounds of the lines that may differ
pub within-same : (shown now : Levels) (first last m : ℕ) (x : Level) → DifferWithin shown now first last
    → IsLine shown.slots m → same_level (level_at shown m) x ≡ true → DifferWithin shown (set_level now m x) first last
within-same shown now first last m x h line same =
    let before : (l : ℕ) → differs shown (set_level now m x) l ≡ true → differs shown now l ≡ true =
    λ l d. differs_before shown now (set_level now m x) m l
    (λ e k. false≢true
    (sym (no_difference_at shown (set_level now m x) l (ap (level_at shown) e ∙ same_level-is (level_at shown m) x same
    ∙ sym (ap (level_at (set_level now m x)) e ∙ level_at-set_same now m x (omega (arith, line.below, h.now_all)))))
    ∙ k))
    (λ ne. level_at-set_other now m l x ne) d in
    record {
      slots = h.slots;
      shown_all = h.shown_all;
      now_all = length-set_level now m x h.now_all;
      begins = h.begins;
      lines = λ l d. h.lines l (before l d);
      low = λ l d. h.low l (before l d);
      high = λ l d. h.high l (before l d);
    }

-- setting the line `m` to any level keeps bounds that are extended to hold `m`
pub within-more : (shown now : Levels) (first last m f n : ℕ) (x : Level) → DifferWithin shown now first last
    → IsLine shown.slots m → IsLine shown.slots f → f ≤ first → f ≤ m → last ≤ n → m ≤ n
    → DifferWithin shown (set_level now m x) f n
within-more shown now first last m f n x h line begins low here high there =
    let before : (l : ℕ) → l ≢ m → differs shown (set_level now m x) l ≡ true → differs shown now l ≡ true =
    λ l ne d. ap (λ (y : Level). not (same_level (level_at shown l) y)) (sym (level_at-set_other now m l x ne)) ∙ d in
    record {
      slots = h.slots;
      shown_all = h.shown_all;
      now_all = length-set_level now m x h.now_all;
      begins = begins;
      lines = λ l d. elim (cases_eq l m) [
        | inl e ↦ subst (IsLine shown.slots) (sym e) line
        | inr ne ↦ h.lines l (before l ne d)
      ];
      low = λ l d. elim (cases_eq l m) [
        | inl e ↦ omega (arith, e, here)
        | inr ne ↦ omega (arith, h.low l (before l ne d), low)
      ];
      high = λ l d. elim (cases_eq l m) [
        | inl e ↦ omega (arith, e, there)
        | inr ne ↦ omega (arith, h.high l (before l ne d), high)
      ];
    }

-- levels that are the same differ within any bounds
pub within-none : (shown now : Levels) (first last : ℕ) → shown ≡ now → length now.levels ≡ line_count
    → IsLine shown.slots first → DifferWithin shown now first last
within-none shown now first last e all begins =
    let none : (l : ℕ) → differs shown now l ≡ true → ⊥ =
    λ l d. false≢true (sym (no_difference_at shown now l (ap (λ (v : Levels). level_at v l) e)) ∙ d) in
    record {
      slots = ap (λ (v : Levels). v.slots) (sym e);
      shown_all = ap (λ (v : Levels). length v.levels) e ∙ all;
      now_all = all;
      begins = begins;
      lines = λ l d. absurd (none l d);
      low = λ l d. absurd (none l d);
      high = λ l d. absurd (none l d);
    }

-- the system reset is a line of each backplane
pub sysreset_exists : (slots : ℕ) → IsLine slots SYSRESET
sysreset_exists slots = record { below = omega arith; exists = cc }

-- ---- the numbers below n for which p holds

-- 0 is at most n
pub zero_le : (n : ℕ) → nat_le 0 n ≡ true
zero_le n = grind (arith, nat_tests)

-- if p holds for n, the numbers below n + 1 with p are those below n, and n
pub those-yes : (p : ℕ → Bool) (n : ℕ) → p n ≡ true → those p 0 (n + 1) ≡ those p 0 n ++ n ∷ []
unfolding those
those-yes p n h = rw (add-one, zero_le n, h) refl

-- if p doesn't hold for n, the numbers below n + 1 with p are those below n
pub those-no : (p : ℕ → Bool) (n : ℕ) → p n ≡ false → those p 0 (n + 1) ≡ those p 0 n
unfolding those
those-no p n h = rw (add-one, zero_le n, h) (append-nil (those p 0 n))

-- if p holds for none of the d numbers from m on, the numbers below m + d with p are those below m
those-past : (p : ℕ → Bool) (m d : ℕ) → ((l : ℕ) → m ≤ l → l < m + d → p l ≡ false) → those p 0 (m + d) ≡ those p 0 m
those-past p m zero none = let e : m + 0 ≡ m = omega arith in ap (those p 0) e
those-past p m (suc d) none =
    let e : m + suc d ≡ (m + d) + 1 = omega arith in
    ap (those p 0) e ∙ those-no p (m + d) (none (m + d) (omega arith) (omega arith)) ∙ those-past p m d
    (λ l low high. none l low (omega arith))

-- if p holds for no number from m to below n, the numbers below n with p are those below m
pub those-skip : (p : ℕ → Bool) (m n : ℕ) → m ≤ n → ((l : ℕ) → m ≤ l → l < n → p l ≡ false) → those p 0 n ≡ those p 0 m
those-skip p m n le none =
    let e : m + (n - m) ≡ n = omega arith in
    ap (those p 0) (sym e) ∙ those-past p m (n - m) (λ l low high. none l low (omega arith))

-- ---- the lines are shown by ascending number

-- the lines below `n` are shown with their levels in `now`, the others with those in `before`; `changes` lists the
-- changes
pub record AreShown (n : ℕ) (before now shown : Levels) (changes : List Change) : Type 0 where
  pub slots : now.slots ≡ shown.slots
  pub shown_all : length shown.levels ≡ line_count
  pub changes_are : changes ≡ map (change_to now) (those (differs before now) 0 n)
  pub below : (l : ℕ) → l < n → level_at shown l ≡ level_at now l
  pub above : (l : ℕ) → n ≤ l → level_at shown l ≡ level_at before l

-- no line below `first` differs
no_difference_below : (before now : Levels) (first last l : ℕ) → DifferWithin before now first last → l < first
    → differs before now l ≡ false
no_difference_below before now first last l h lt = elim (cases_Bool (differs before now l)) [
  | inl d ↦ absurd (omega (arith, h.low l d, lt))
  | inr none ↦ none
]

-- no line above `last` differs
no_difference_above : (before now : Levels) (first last l : ℕ) → DifferWithin before now first last → last < l
    → differs before now l ≡ false
no_difference_above before now first last l h lt = elim (cases_Bool (differs before now l)) [
  | inl d ↦ absurd (omega (arith, h.high l d, lt))
  | inr none ↦ none
]

-- if n is at most `first`, no line below n differs: the levels before are shown, with no change
pub AreShown-up_to_first : (before now : Levels) (first last n : ℕ) (changes : List Change)
    → DifferWithin before now first last
    → n ≤ first → changes ≡ [] → AreShown n before now before changes
unfolding those
AreShown-up_to_first before now first last n changes h is none =
    let unchanged : (l : ℕ) → l < n → differs before now l ≡ false =
    λ l lt. no_difference_below before now first last l h
    (omega (arith, is, lt)) in
    record {
      slots = h.slots;
      shown_all = h.shown_all;
      changes_are = none ∙ sym (ap (map (change_to now)) (those-skip (differs before now) 0 n (omega arith)
          (λ l low lt. unchanged l lt)));
      below = λ l lt. same_unless_differs before now l (unchanged l lt);
      above = λ l le. refl;
    }

-- where the line `n` is shown with its level in `now`, it needs no change
pub AreShown-same : (n : ℕ) (before now shown : Levels) (changes : List Change)
    → same_level (level_at now n) (level_at shown n) ≡ true → AreShown n before now shown changes
    → AreShown (n + 1) before now shown changes
AreShown-same n before now shown changes same h =
    let is : level_at shown n ≡ level_at now n = sym (same_level-is _ _ same) in
    let unchanged : differs before now n ≡ false = no_difference_at before now n (sym (h.above n (omega arith)) ∙ is) in
    record {
      slots = h.slots;
      shown_all = h.shown_all;
      changes_are = h.changes_are ∙ ap (map (change_to now)) (sym (those-no (differs before now) n unchanged));
      below = λ l lt. elim (cases_lt l n) [
        | inl less ↦ h.below l less
        | inr more ↦
            let e : l ≡ n = omega (arith, lt, more) in
            ap (level_at shown) e ∙ is ∙ ap (level_at now) (sym e)
      ];
      above = λ l le. h.above l (omega (arith, le));
    }

-- a line that isn't shown with its level in `now` differs
pub AreShown-differs : (n : ℕ) (before now shown : Levels) (changes : List Change)
    → same_level (level_at now n) (level_at shown n) ≡ false → AreShown n before now shown changes
    → differs before now n ≡ true
AreShown-differs n before now shown changes other h = elim (cases_Bool (differs before now n)) [
  | inl d ↦ d
  | inr same ↦
      let e : level_at shown n ≡ level_at now n = h.above n (omega arith) ∙ same_unless_differs before now n same in
      absurd (false≢true
      (sym other ∙ ap (same_level (level_at now n)) e ∙ same_level-refl (level_at now n)))
]

-- where the line `n` isn't shown with its level in `now`, it is changed
pub AreShown-changed : (n : ℕ) (before now shown : Levels) (changes : List Change) → n < line_count
    → same_level (level_at now n) (level_at shown n) ≡ false → AreShown n before now shown changes
    → AreShown (n + 1) before now (set_level shown n (level_at now n)) (changes ++ change_to now n ∷ [])
AreShown-changed n before now shown changes lt other h =
    let d : differs before now n ≡ true = AreShown-differs n before now shown changes other h in
    record {
      slots = h.slots;
      shown_all = length-set_level shown n (level_at now n) h.shown_all;
      changes_are =
          ap (λ (cs : List Change). cs ++ change_to now n ∷ []) h.changes_are
          ∙ sym (map_push (change_to now) (those (differs before now) 0 n) n)
          ∙ ap (map (change_to now)) (sym (those-yes (differs before now) n d));
      below = λ l below. elim (cases_eq l n) [
        | inl e ↦ ap (level_at (set_level shown n (level_at now n))) e
            ∙ level_at-set_same shown n _ (omega (arith, lt, h.shown_all)) ∙ ap (level_at now) (sym e)
        | inr ne ↦ level_at-set_other shown n l _ ne ∙ h.below l (omega (arith, below, ne))
      ];
      above = λ l le. let ne : l ≢ n = omega (arith, le) in
          level_at-set_other shown n l _ ne ∙ h.above l (omega (arith, le));
    }

-- a line that isn't shown with its level in `now` exists on the backplane
pub AreShown-IsLine : (n : ℕ) (before now shown : Levels) (first last : ℕ) (changes : List Change)
    → DifferWithin before now
    first last → same_level (level_at now n) (level_at shown n) ≡ false → AreShown n before now shown changes
    → IsLine now.slots n × IsLine shown.slots n
AreShown-IsLine n before now shown first last changes t other h =
    let here : IsLine before.slots n = t.lines n (AreShown-differs n before now shown changes other h) in
    let there : IsLine now.slots n = subst (λ (s : ℕ). IsLine s n) (sym t.slots) here in
    (there, subst (λ (s : ℕ). IsLine s n) h.slots there)

-- while the lines are shown, those that still differ are within the same bounds
pub AreShown-DifferWithin : (n : ℕ) (before now shown : Levels) (first last : ℕ) (changes : List Change)
    → DifferWithin before
    now first last → AreShown n before now shown changes → DifferWithin shown now first last
AreShown-DifferWithin n before now shown first last changes t h =
    let slots : before.slots ≡ shown.slots = sym t.slots ∙ h.slots in
    let old : (l : ℕ) → differs shown now l ≡ true → differs before now l ≡ true =
    λ l d. elim (cases_lt l n) [
      | inl less ↦ absurd (false≢true (sym (no_difference_at shown now l (h.below l less)) ∙ d))
      | inr more ↦ ap (λ (y : Level). not (same_level y (level_at now l))) (sym (h.above l more)) ∙ d
    ] in
    record {
      slots = h.slots;
      shown_all = h.shown_all;
      now_all = t.now_all;
      begins = subst (λ (s : ℕ). IsLine s first) slots t.begins;
      lines = λ l d. subst (λ (s : ℕ). IsLine s l) slots (t.lines l (old l d));
      low = λ l d. t.low l (old l d);
      high = λ l d. t.high l (old l d);
    }

-- once the lines up to `last` are shown, `changes` are all changes
pub AreShown-changes : (n : ℕ) (before now shown : Levels) (first last : ℕ) (changes : List Change)
    → DifferWithin before
    now first last → n ≡ last + 1 → n ≤ line_count → AreShown n before now shown changes
    → changes ≡ changes_between before now
AreShown-changes n before now shown first last changes t end most h =
    h.changes_are ∙ ap (map (change_to now)) (sym (those-skip (differs before now) n line_count most
    (λ l low high. no_difference_above before now first last l t (omega (arith, end, low)))))

-- once the lines up to `last` are shown, all levels are those in `now`
pub AreShown-all : (n : ℕ) (before now shown : Levels) (first last : ℕ) (changes : List Change)
    → DifferWithin before now
    first last → n ≡ last + 1 → AreShown n before now shown changes → shown ≡ now
AreShown-all n before now shown first last changes t end h =
    same_levels shown now (sym h.slots) h.shown_all t.now_all (λ l lt. elim (cases_lt l n) [
      | inl less ↦ h.below l less
      | inr more ↦ h.above l more ∙ same_unless_differs before now l
          (no_difference_above before now first last l t (omega (arith, end, more)))
    ])
