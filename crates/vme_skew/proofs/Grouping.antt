-- The lines that a group touches are listed, each once it is marked, as its changes are made.
use Rattle.std.proofs.Common.{◌≡◌, ℕ, ◌+◌, ◌-◌, ◌<◌, Bool, true, false, not, List, [], ◌∷◌, ◌++◌, length}
use Rattle.std.proofs.Common.{take, get_or, replicate, refl, sym, ap, ◌∙◌, subst, arith, inl, inr}
use Rattle.std.specs.Prelude.{nat_lt, slice_set, Contains}
use Rattle.std.specs.List.Sorted.{IsPermutation}
use Rattle.std.proofs.lemmas.Bool.{cases_eq, cases_lt, false≢true}
use Rattle.std.proofs.lemmas.Bool.Decides.{nat_tests}
use Rattle.std.proofs.lemmas.List.{get_or-replicate, get_or-set_other, get_or_past, length-replicate, take_more}
use Rattle.std.proofs.lemmas.List.Elements.{Contains-append_left, Contains-append_right}
use Rattle.std.proofs.lemmas.List.Sorted.{Contains-permutation}
use Rattle.vme_trace.specs.Levels.{Levels, level_at, set_level, same_level}
use Rattle.vme_trace.specs.LineNumbers.{line_count}
use Rattle.vme_trace.specs.Trace.{changed}
use Rattle.vme_trace.specs.declared.level.Level.{Level}
use Rattle.vme_trace.specs.declared.step.Change.{Change}
use Rattle.vme_bind.specs.Recording.{IsLine, step_between}
use Rattle.vme_bind.proofs.RecorderLemmas.{length-set_level, level_at-set_other}
use Rattle.vme_skew.specs.Group.{GroupLevels, KeepsTouchedLines, ListsTouchedLines}
use Rattle.vme_skew.proofs.TouchedLines.{ListsTouchedLines-set, ListsTouchedLines-same}

-- a time is more than the skew after the beginning: as the code tests it, and as it is defined
pub is_over_skew : (start skew time : ℕ) → nat_lt skew (time - start) ≡ nat_lt (start + skew) time
is_over_skew start skew time = grind (arith, nat_tests)

-- no line is marked
pub get_or-unmarked : (n l : ℕ) → get_or (replicate n false) l false ≡ false
get_or-unmarked n l = elim (cases_lt l n) [
  | inl lt ↦ get_or-replicate n l false false lt
  | inr past ↦ get_or_past (replicate n false) l false (omega (arith, past, length-replicate n false))
]

-- `KeepsTouchedLines` holds of no lines where a group begins
pub KeepsTouchedLines-begun : (before now : Levels) (touched : List ℕ) (marks : List Bool) → before ≡ now
    → length now.levels ≡ line_count → touched ≡ [] → marks ≡ replicate line_count false
    → KeepsTouchedLines before now touched marks
KeepsTouchedLines-begun before now touched marks same all none clear = record {
  lists = subst (ListsTouchedLines before now) (sym none) (ListsTouchedLines-same before now same all);
  marked = λ l m. absurd (false≢true
      (sym (get_or-unmarked line_count l) ∙ (ap (λ (ms : List Bool). get_or ms l false) (sym clear) ∙ m)));
}

-- `KeepsTouchedLines` holds after a line gets a level, is listed and is marked
pub KeepsTouchedLines-marked : (before now : Levels) (touched : List ℕ) (marks : List Bool) (m : ℕ) (x : Level)
    → KeepsTouchedLines before now touched marks → IsLine before.slots m
    → KeepsTouchedLines before (set_level now m x) (touched ++ m ∷ []) (slice_set marks m true)
KeepsTouchedLines-marked before now touched marks m x h line = record {
  lists = ListsTouchedLines-set before now touched m x h.lists line;
  marked = λ l k. elim (cases_eq l m) [
    | inl e ↦ Contains-append_right touched (m ∷ []) l (subst (Contains (m ∷ [])) (sym e) (0, omega arith, refl))
    | inr ne ↦ Contains-append_left touched (m ∷ []) l (h.marked l (sym (get_or-set_other marks m l true false ne) ∙ k))
  ];
}

-- `KeepsTouchedLines` holds after a line that is marked gets a level
pub KeepsTouchedLines-set_again : (before now : Levels) (touched : List ℕ) (marks : List Bool) (m : ℕ) (x : Level)
    → KeepsTouchedLines before now touched marks → get_or marks m false ≡ true
    → KeepsTouchedLines before (set_level now m x) touched marks
KeepsTouchedLines-set_again before now touched marks m x h here = record {
  lists = record {
    slots = h.lists.slots;
    before_all = h.lists.before_all;
    now_all = length-set_level now m x h.lists.now_all;
    lines = h.lists.lines;
    listed = λ l d. elim (cases_eq l m) [
      | inl e ↦ h.marked l (ap (λ (k : ℕ). get_or marks k false) e ∙ here)
      | inr ne ↦ h.lists.listed l
          (ap (λ (y : Level). not (same_level (level_at before l) y)) (sym (level_at-set_other now m l x ne)) ∙ d)
    ];
  };
  marked = h.marked;
}

-- marked lines stay listed if the list is permuted
pub Contains-marked_permuted : (touched others : List ℕ) (marks : List Bool) → IsPermutation touched others
    → ((l : ℕ) → get_or marks l false ≡ true → Contains touched l)
    → (l : ℕ) → get_or marks l false ≡ true → Contains others l
Contains-marked_permuted touched others marks p h l k = Contains-permutation touched others l p (h l k)

-- the levels after some changes and one more are those after the changes, with the one more made
changed-append : (v : Levels) (cs : List Change) (c : Change) → changed v (cs ++ c ∷ [])
    ≡ set_level (changed v cs) c.line c.level
unfolding changed
changed-append v [] c = refl
changed-append v (d ∷ cs) c = changed-append (set_level v d.line d.level) cs c

-- the levels after the first i + 1 changes are those after the first i, with change i made
pub changed-take_next : (v : Levels) (cs : List Change) (i : ℕ) (c : Change) → i < length cs → c ≡ get_or cs i c
    → set_level (changed v (take i cs)) c.line c.level ≡ changed v (take (i + 1) cs)
changed-take_next v cs i c lt e =
    sym (changed-append v (take i cs) c)
    ∙ ap (changed v) (ap (λ (d : Change). take i cs ++ d ∷ []) e ∙ sym (take_more cs i c lt))

-- the levels of a group, by its parts
abbrev group_of : ℕ → Levels → Levels → GroupLevels
group_of start before now = record { start = start; before = before; now = now }

-- the step of a group is that between its levels, by its parts
pub step_between-of_group : (g : GroupLevels) (start : ℕ) (before now : Levels) → g ≡ group_of start before now
    → step_between
    start before now ≡ step_between g.start g.before g.now
step_between-of_group g start before now e = ap (λ (h : GroupLevels). step_between h.start h.before h.now) (sym e)
