-- Once all variables of a dump are visited, the searches have found the bound groups that the definitions give.
use Rattle.std.proofs.Common.{◌≡◌, ℕ, ◌<◌, eqb, Bool, true, false, cond, ◌&&◌, List, [], ◌∷◌, map, drop, get_or, length}
use Rattle.std.proofs.Common.{◌+◌, ◌≤◌, ◌++◌, Option, Some, None, Result, Ok, Err, refl, sym, ap, ◌∙◌, arith}
use Rattle.std.specs.Prelude.{bytes_eq}
use Rattle.std.proofs.lemmas.Bool.{and_from, and_right, eq-eqb}
use Rattle.std.proofs.lemmas.Bool.Decides.{nat_tests}
use Rattle.std.specs.List.{fold, filter_map, list_all}
use Rattle.std.proofs.lemmas.List.{map-id}
use Rattle.std.proofs.lemmas.Simd.{map-map}
use Rattle.vcd_read.specs.declared.dump.Variable.{Variable}
use Rattle.vcd_read.specs.Header.{◌>>=◌, Reference, variable_in}
use Rattle.vcd_read.specs.Scopes.{path_in}
use Rattle.vme_bind.specs.declared.assignment.Assignment.{Assignment}
use Rattle.vme_bind.specs.declared.fault.BindFault.{BindFault}
use Rattle.vme_bind.specs.declared.fault.BindFaultKind.{BindFaultKind}
use Rattle.vme_bind.specs.declared.fault.BindFaultKind.TheVariants.{AmbiguousPath}
use Rattle.vme_bind.specs.declared.source.LevelSource.{LevelSource}
use Rattle.vme_bind.specs.declared.source.LevelSource.TheVariants.{Constant, Variable as Named}
use Rattle.vme_bind.specs.declared.source.VariableSelector.{VariableSelector}
use Rattle.vme_bind.specs.declared.path_search.PathSearch.{PathSearch}
use Rattle.vme_bind.specs.declared.path_search.PathMatch.{PathMatch}
use Rattle.vme_bind.specs.declared.path_search.PathMatch.TheVariants.{Nothing, Only, Several}
use Rattle.vme_bind.specs.declared.bound_groups.BitRange.{BitRange}
use Rattle.vme_bind.specs.declared.bound_groups.BoundGroup.{BoundGroup}
use Rattle.vme_bind.specs.PathSearch.{Searched, with_bits, only_found, path_to_find, scopes_matched, candidate_of}
use Rattle.vme_bind.specs.PathSearch.{with_candidate, with_variable, found_in, none_found, source_of, bound_group_of}
use Rattle.vme_bind.specs.PathSearch.{bound_groups_of}
use Rattle.vme_bind.specs.BoundGroups.{bits_meant, candidate, same_bits, only, source_by, source_in, bound_group_by}
use Rattle.vme_bind.specs.BoundGroups.{bound_group_in, bound_groups_in}
use Rattle.vme_bind.proofs.PathSearchLemmas.{bytes_eq-path_of}
use Rattle.vme_bind.proofs.BoundGroupLemmas.{after_bound_groups, after_bound_groups-next, drop-element}
use Rattle.std.proofs.Math.ListN.{drop_of_length-le}
use Rattle.std.proofs.lemmas.List.{append-nil}

-- ---- one assignment

-- the result of the candidates `others` after what is found before
abbrev only_after : PathMatch → List BitRange → Result BitRange BindFaultKind
only_after Nothing others = only others
only_after (Only bits) others = cond (list_all (same_bits bits) others) (Ok bits) (Err AmbiguousPath)
only_after Several others = Err AmbiguousPath

-- what is found of a source after all `variables`, where `found` was found before
abbrev found_all : LevelSource → PathMatch → List Variable → PathMatch
found_all source found variables = fold (λ (f : PathMatch) (v : Variable). with_bits f (candidate_of source v)) found
    variables

-- the candidates with one before them, if there is one
abbrev prepended : Option BitRange → List BitRange → List BitRange
prepended None others = others
prepended (Some bits) others = bits ∷ others

-- one candidate more, if there is one, after what is found
only_after-with_bits : (found : PathMatch) (next : Option BitRange) (others : List BitRange)
    → only_after (with_bits found next) others ≡ only_after found (prepended next others)
only_after-with_bits found None others = refl
only_after-with_bits Nothing (Some next) others = refl
only_after-with_bits (Only bits) (Some next) others = by_same (same_bits bits next)
  where
    by_same : (b : Bool) → only_after (cond b (Only bits) Several) others
        ≡ cond (b && list_all (same_bits bits) others) (Ok bits) (Err AmbiguousPath)
    by_same true = refl
    by_same false = refl
only_after-with_bits Several (Some next) others = refl

-- the candidates among a variable and those after it are that variable's, if it is one, and theirs
candidates-next : (named : VariableSelector) (v : Variable) (vs : List Variable) (next : Option BitRange)
    → candidate named v ≡ next
    → filter_map (candidate named) (v ∷ vs) ≡ prepended next (filter_map (candidate named) vs)
candidates-next named v vs None e = rw e refl
candidates-next named v vs (Some bits) e = rw e refl

-- what is found after all variables gives the only candidate among them
only_found-all : (named : VariableSelector) (vs : List Variable) (found : PathMatch)
    → only_found (found_all (Named named) found vs) ≡ only_after found (filter_map (candidate named) vs)
only_found-all named [] Nothing = refl
only_found-all named [] (Only bits) = refl
only_found-all named [] Several = refl
only_found-all named (v ∷ vs) found =
    only_found-all named vs (with_bits found (candidate named v))
    ∙ only_after-with_bits found (candidate named v) (filter_map (candidate named) vs)
    ∙ ap (only_after found) (sym (candidates-next named v vs (candidate named v) refl))

-- what is found of a source after all variables is the source that the definitions give
source_of-all : (count : ℕ) (source : LevelSource) (vs : List Variable) → source_of count (found_all source Nothing vs)
    source ≡ source_in vs count source
source_of-all count (Constant level) vs = refl
source_of-all count (Named named) vs = ap (λ (r : Result BitRange BindFaultKind). source_by count r)
    (only_found-all named vs Nothing)

-- ---- all assignments

-- an assignment and what is found of its variable, after all variables
abbrev seen_all : List Variable → Searched → Searched
seen_all vs s = record s { found = found_all s.assignment.source s.found vs }

-- visiting variables one after the other finds for each assignment what is found of it after all of them
with_variable-all : (vs : List Variable) (seen : List Searched) → fold with_variable seen vs ≡ map (seen_all vs) seen
with_variable-all [] seen = sym (map-id seen)
with_variable-all (v ∷ vs) seen = with_variable-all vs (map (with_candidate v) seen)
    ∙ map-map (seen_all vs) (with_candidate v) seen

-- the bound groups of what is found of all assignments after all variables are those that the definitions give
bound_groups_of-all : (vs : List Variable) (as' : List Assignment)
    → bound_groups_of (map (seen_all vs) (map none_found as'))
    ≡ bound_groups_in vs as'
unfolding bound_groups_of bound_groups_in
bound_groups_of-all vs [] = refl
bound_groups_of-all vs (a ∷ as') =
    ap (λ (r : Result BoundGroup BindFault). r >>= λ bound_group.
    bound_groups_of (map (seen_all vs) (map none_found as')) >>= λ bound_groups. Ok (bound_group ∷ bound_groups))
    (ap (bound_group_by a) (source_of-all a.group.count a.source vs))
    ∙ ap (λ (r : Result (List BoundGroup) BindFault). bound_group_in vs a >>= λ bound_group. r >>= λ bound_groups. Ok
    (bound_group ∷ bound_groups)) (bound_groups_of-all vs as')

-- the bound groups of what is found are the bound groups by all variables
pub bound_groups_of-bound_groups_in : (vs : List Variable) (as' : List Assignment) (seen : List Searched) → seen
    ≡ fold with_variable
    (map none_found as') vs → bound_groups_of seen ≡ bound_groups_in vs as'
bound_groups_of-bound_groups_in vs as' seen e = ap bound_groups_of (e ∙ with_variable-all vs (map none_found as'))
    ∙ bound_groups_of-all vs as'

-- ---- a variable in the open scopes

module _ (named : VariableSelector) (scopes : List (List ℕ)) (net size : ℕ) (r : Reference) (some : 0 < length r.name)
  where
    -- the candidate of a variable in the open scopes: the bits that are selected of it, if the path begins with all of
    -- the scopes and its rest is the variable's name
    candidate-in_scopes : candidate named (variable_in scopes net size r)
        ≡ cond (eqb (scopes_matched named.path scopes) (length scopes)
        && bytes_eq (drop (length (path_in scopes)) named.path) r.name) (bits_meant named.selection net size r.index)
        None
    candidate-in_scopes = ap (λ (b : Bool). cond b (bits_meant named.selection net size r.index) None)
        (bytes_eq-path_of named.path r.name scopes some)

    -- the candidate of a variable with the path is the bits that are selected of it, if it has them
    pub candidate-same_path : (matched_scopes : ℕ) (rest : List ℕ) → matched_scopes ≡ scopes_matched named.path scopes
        → matched_scopes ≡ length scopes
        → rest ≡ drop (length (path_in scopes)) named.path → bytes_eq rest r.name ≡ true
        → bits_meant named.selection net size r.index ≡ candidate named (variable_in scopes net size r)
    candidate-same_path matched_scopes rest is all e same =
        sym (candidate-in_scopes ∙ ap (λ (b : Bool). cond b (bits_meant named.selection net size r.index) None)
        (and_from _ _ (eq-eqb (scopes_matched named.path scopes) (length scopes) (sym is ∙ all)) (rw e at same)))

    -- a variable with another name is no candidate
    pub candidate-other_name : (rest : List ℕ) → rest ≡ drop (length (path_in scopes)) named.path → bytes_eq rest r.name
        ≡ false → None ≡ candidate named (variable_in scopes net size r)
    candidate-other_name rest e other =
        sym (candidate-in_scopes ∙ ap (λ (b : Bool). cond b (bits_meant named.selection net size r.index) None)
        (and_right (eqb (scopes_matched named.path scopes) (length scopes)) _ (rw e at other)))

    -- a variable in other scopes is no candidate
    candidate-other_scopes : (matched_scopes : ℕ) → matched_scopes ≡ scopes_matched named.path scopes
        → (matched_scopes ≡ length scopes → ⊥) → None
        ≡ candidate named (variable_in scopes net size r)
    candidate-other_scopes matched_scopes is other =
        sym (candidate-in_scopes
        ∙ ap (λ (b : Bool). cond (b && bytes_eq (drop (length (path_in scopes)) named.path) r.name)
        (bits_meant named.selection net size r.index) None) none)
      where
        none : eqb (scopes_matched named.path scopes) (length scopes) ≡ false
        none = grind (arith, nat_tests, is, other)

-- a variable in other scopes leaves what is found as it is
pub with_bits-other_scopes : (source : LevelSource) (found : PathMatch) (scopes : List (List ℕ)) (net size : ℕ)
    (r : Reference)
    (matched_scopes : ℕ) → 0 < length r.name → matched_scopes ≡ scopes_matched (path_to_find source) scopes
    → (matched_scopes ≡ length scopes → ⊥)
    → found ≡ with_bits found (candidate_of source (variable_in scopes net size r))
with_bits-other_scopes (Constant level) found scopes net size r matched_scopes some is other = refl
with_bits-other_scopes (Named named) found scopes net size r matched_scopes some is other = ap (with_bits found)
    (candidate-other_scopes named scopes net size r some matched_scopes is other)

-- ---- the bound groups one after the other

-- the bound group of search `i` is the next
pub bound_groups-first : (bound_groups : List BoundGroup) (searches : List PathSearch) (i : ℕ) (s : PathSearch)
    → i < length searches → s ≡ get_or searches i s
    → after_bound_groups bound_groups (bound_groups_of (map found_in (drop i searches)))
    ≡ (bound_group_of (found_in s) >>= λ bound_group. after_bound_groups (bound_groups ++ bound_group ∷ [])
    (bound_groups_of (map found_in (drop (i + 1) searches))))
unfolding bound_groups_of
bound_groups-first bound_groups searches i s lt e =
    ap (λ (rest : List PathSearch). after_bound_groups bound_groups (bound_groups_of (map found_in rest)))
    (drop-element searches i s lt e)
    ∙ after_bound_groups-next bound_groups (bound_group_of (found_in s))
    (bound_groups_of (map found_in (drop (i + 1) searches)))

-- where search `i` has a bound group, it is added to those so far
pub bound_groups-step : (bound_groups : List BoundGroup) (searches : List PathSearch) (i : ℕ) (s : PathSearch)
    (bound_group : BoundGroup) → i < length searches → s ≡ get_or searches i s → bound_group_of (found_in s)
    ≡ Ok bound_group
    → after_bound_groups bound_groups (bound_groups_of (map found_in (drop i searches))) ≡ after_bound_groups
    (bound_groups ++ bound_group ∷ []) (bound_groups_of (map found_in (drop (i + 1) searches)))
bound_groups-step bound_groups searches i s bound_group lt e is =
    bound_groups-first bound_groups searches i s lt e
    ∙ ap (λ (r : Result BoundGroup BindFault). r >>= λ bound_group. after_bound_groups (bound_groups ++ bound_group
    ∷ []) (bound_groups_of (map found_in (drop (i + 1) searches)))) is

-- after the last search, the result is the bound groups so far
pub bound_groups-end : (bound_groups : List BoundGroup) (searches : List PathSearch) (i : ℕ) → length searches ≤ i
    → after_bound_groups bound_groups (bound_groups_of (map found_in (drop i searches))) ≡ Ok bound_groups
unfolding bound_groups_of
bound_groups-end bound_groups searches i le =
    ap (λ (rest : List PathSearch). after_bound_groups bound_groups (bound_groups_of (map found_in rest)))
    (drop_of_length-le searches le) ∙ ap Ok (append-nil bound_groups)
