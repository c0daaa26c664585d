-- If variables are added whose paths no variable of a dump has, a binding finds what it found without them.
use Rattle.std.proofs.Common.{◌≡◌, ℕ, Bool, true, false, cond, List, [], ◌∷◌, ◌++◌, None, Result, Ok, Err}
use Rattle.std.proofs.Common.{refl, sym, subst, ◌∙◌, true≢false}
use Rattle.std.specs.Prelude.{bytes_eq, filter_map, ◌||◌}
use Rattle.std.specs.List.{cons_option, list_any}
use Rattle.std.proofs.lemmas.List.{append-nil}
use Rattle.std.proofs.lemmas.List.Elements.{filter_map-append}
use Rattle.std.proofs.lemmas.Slice.Eq.{bytes_eq-Decides}
use Rattle.vcd_read.specs.Header.{◌>>=◌}
use Rattle.vcd_read.specs.declared.dump.Variable.{Variable}
use Rattle.vme_bind.specs.Answers.{at_line}
use Rattle.vme_bind.specs.BoundGroups.{bound_group_in, bound_groups_in, bits_meant, candidate, only}
use Rattle.vme_bind.specs.BoundGroups.{source_in}
use Rattle.vme_bind.specs.declared.assignment.Assignment.{Assignment}
use Rattle.vme_bind.specs.declared.fault.BindFaultKind.{BindFaultKind}
use Rattle.vme_bind.specs.declared.source.LevelSource.{LevelSource}
use Rattle.vme_bind.specs.declared.source.LevelSource.TheVariants.{Constant, Variable as Named}
use Rattle.vme_bind.specs.declared.source.VariableSelector.{VariableSelector}

-- a variable has this path
abbrev pub has_path : List ℕ → Variable → Bool
has_path path v = bytes_eq v.path path

-- if no variable has the path that `named` names, there is no candidate
no_candidate : (named : VariableSelector) (variables : List Variable) → list_any (has_path named.path) variables ≡ false
    → filter_map (candidate named) variables ≡ []
no_candidate named [] none = refl
no_candidate named (v ∷ variables) none =
    go (bytes_eq v.path named.path) refl none (λ rest. no_candidate named variables rest)
  where
    go : (test : Bool) → bytes_eq v.path named.path ≡ test
        → (test || list_any (has_path named.path) variables) ≡ false
        → (list_any (has_path named.path) variables ≡ false → filter_map (candidate named) variables ≡ [])
        → cons_option (cond (bytes_eq v.path named.path) (bits_meant named.selection v.net v.size v.index) None)
        (filter_map (candidate named) variables) ≡ []
    go true is f others = absurd (true≢false f)
    go false is f others = rw is (others f)

-- no variable of the first list has the path of one of the second
abbrev pub AreApart : List Variable → List Variable → Type 0
AreApart variables [] = Unit {0}
AreApart variables (new ∷ more) = (list_any (has_path new.path) variables ≡ false) × AreApart variables more

-- ---- what is found

-- whether the result is no fault
abbrev pub is_fine : {A E : Type 0} → Result A E → Bool
is_fine (Ok a) = true
is_fine (Err e) = false

-- if a chain of two results has no fault, neither has the first
pub fine_first : {A B E : Type 0} (r : Result A E) (f : A → Result B E) → is_fine (r >>= f) ≡ true → is_fine r ≡ true
fine_first (Ok a) f e = refl
fine_first (Err fault) f e = e

-- if a chain of two results has no fault, neither has the second
fine_second : {A B C E : Type 0} (r : Result A E) (s : Result B E) (f : A → B → Result C E)
    → is_fine (r >>= λ a. s >>= λ b. f a b) ≡ true → is_fine s ≡ true
fine_second (Ok a) s f e = fine_first s (f a) e
fine_second (Err fault) s f e = absurd (true≢false (sym e))

-- if a result with a line number has no fault, neither has the result
fine_at : {A : Type 0} (line : ℕ) (r : Result A BindFaultKind) → is_fine (at_line line r) ≡ true → is_fine r ≡ true
fine_at line (Ok a) e = refl
fine_at line (Err kind) e = e

module _ (variables more : List Variable) (differ : AreApart variables more) where
  -- the variables, and after them those that are added
  abbrev pub all : List Variable
  all = variables ++ more

  -- the variables have a candidate for `named`, and all their candidates are the same bits
  abbrev is_found : VariableSelector → Type 0
  is_found named = is_fine (only (filter_map (candidate named) variables)) ≡ true

  -- an added variable, whose path none of the variables has, is no candidate for a `named` that is found
  candidate-of_new : (new : Variable) (named : VariableSelector) → list_any (has_path new.path) variables ≡ false
      → is_found named → candidate named new ≡ None
  candidate-of_new new named differs found = go (bytes_eq new.path named.path) refl
    where
      go : (test : Bool) → bytes_eq new.path named.path ≡ test
          → cond (bytes_eq new.path named.path) (bits_meant named.selection new.net new.size new.index) None ≡ None
      go false is = rw is refl
      go true is =
          let path : new.path ≡ named.path = (bytes_eq-Decides new.path named.path).0 is in
          let none = no_candidate named variables
          (subst (λ (p : List ℕ). list_any (has_path p) variables ≡ false) path differs) in
          absurd (true≢false (sym (rw none at found)))

  -- no added variable is a candidate for a `named` that is found
  candidates-of_more : (named : VariableSelector) → is_found named → (new : List Variable) → AreApart variables new
      → filter_map (candidate named) new ≡ []
  candidates-of_more named found [] differ = refl
  candidates-of_more named found (v ∷ new) differ =
      let none = candidate-of_new v named differ.0 found in
      rw none (candidates-of_more named found new differ.1)

  -- the candidates for a `named` that is found are the same with the added variables
  candidates_stay : (named : VariableSelector) → is_found named
      → filter_map (candidate named) all ≡ filter_map (candidate named) variables
  candidates_stay named found =
      let none = candidates-of_more named found more differ in
      filter_map-append (candidate named) variables more
      ∙ (rw none (append-nil (filter_map (candidate named) variables)))

  -- a source that is found is found the same with the added variables
  source_stays : (count : ℕ) (s : LevelSource) → is_fine (source_in variables count s) ≡ true
      → source_in all count s ≡ source_in variables count s
  source_stays count (Constant level) fine = refl
  source_stays count (Named named) fine =
      let same = candidates_stay named (fine_first (only (filter_map (candidate named) variables)) _ fine) in
      rw same refl

  -- a group that is found is found the same with the added variables
  group_stays : (a : Assignment) → is_fine (bound_group_in variables a) ≡ true
      → bound_group_in all a ≡ bound_group_in variables a
  group_stays a fine =
      let source = fine_at a.line (source_in variables a.group.count a.source) (fine_first (at_line a.line
      (source_in variables a.group.count a.source)) _ fine) in
      let same = source_stays a.group.count a.source source in
      rw same refl

  -- a binding finds the same groups when the variables are added
  pub groups_stay : (assignments : List Assignment) → is_fine (bound_groups_in variables assignments) ≡ true
      → bound_groups_in all assignments ≡ bound_groups_in variables assignments
  unfolding bound_groups_in
  groups_stay [] fine = refl
  groups_stay (a ∷ assignments) fine =
      let first = group_stays a (fine_first (bound_group_in variables a) _ fine) in
      let rest = groups_stay assignments (fine_second (bound_group_in variables a)
      (bound_groups_in variables assignments) _ fine) in
      rw (first, rest) refl
