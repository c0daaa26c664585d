-- The bound groups of a binding, found one after the other: each assignment adds one, from the only candidate among the
-- variables.
use Rattle.std.proofs.Common.{◌≡◌, ℕ, ◌+◌, ◌<◌, cond, ◌≤◌, List, [], ◌∷◌, ◌++◌, length, get_or}
use Rattle.std.proofs.Common.{drop, Option, Some, None, Result, Ok, Err, refl, sym, ap, ◌∙◌, add-one}
use Rattle.std.proofs.Common.{append_assoc}
use Rattle.std.proofs.Math.Seq.{drop-cons}
use Rattle.std.proofs.Math.ListN.{drop_of_length-le}
use Rattle.std.specs.List.{list_all}
use Rattle.std.proofs.lemmas.List.{append-nil}
use Rattle.vcd_read.specs.declared.dump.Variable.{Variable}
use Rattle.vcd_read.specs.Header.{◌>>=◌}
use Rattle.vme_bind.specs.declared.assignment.Assignment.{Assignment}
use Rattle.vme_bind.specs.declared.fault.BindFault.{BindFault}
use Rattle.vme_bind.specs.declared.fault.BindFaultKind.{BindFaultKind}
use Rattle.vme_bind.specs.declared.fault.BindFaultKind.TheVariants.{AmbiguousPath}
use Rattle.vme_bind.specs.declared.bound_groups.BitRange.{BitRange}
use Rattle.vme_bind.specs.declared.bound_groups.BoundGroup.{BoundGroup}
use Rattle.vme_bind.specs.BoundGroups.{only, same_bits, bound_group_in, bound_groups_in}

-- the rest of a list from place `i` on is element `i` and the rest after it
pub drop-element : {X : Type 0} (xs : List X) (i : ℕ) (x : X) → i < length xs → x ≡ get_or xs i x → drop i xs ≡ x
    ∷ drop (i + 1) xs
drop-element xs i x lt e = rw add-one (drop-cons xs i x lt) ∙ ap (λ y. y ∷ drop (i + 1) xs) (sym e)

-- the only candidate among those in the list and the one found before, if there is one
abbrev pub only_from : Option BitRange → List BitRange → Result BitRange BindFaultKind
only_from None found = only found
only_from (Some bits) others = cond (list_all (same_bits bits) others) (Ok bits) (Err AmbiguousPath)

-- the bound groups so far, followed by those that are still to be found
abbrev pub after_bound_groups : List BoundGroup → Result (List BoundGroup) BindFault → Result (List BoundGroup)
    BindFault
after_bound_groups bound_groups rest = rest >>= λ others. Ok (bound_groups ++ others)

-- a bound group before those still to be found may be the last of those so far
after_bound_groups-append : (bound_groups : List BoundGroup) (bound_group : BoundGroup)
    (rest : Result (List BoundGroup) BindFault)
    → after_bound_groups bound_groups (rest >>= λ others. Ok (bound_group ∷ others)) ≡ after_bound_groups
    (bound_groups ++ bound_group ∷ []) rest
after_bound_groups-append bound_groups bound_group (Ok others) =
    ap Ok (sym (append_assoc bound_groups (bound_group ∷ []) others))
after_bound_groups-append bound_groups bound_group (Err fault) = refl

-- where the next bound group is `r`, it is added to those so far
pub after_bound_groups-next : (bound_groups : List BoundGroup) (r : Result BoundGroup BindFault)
    (rest : Result (List BoundGroup) BindFault)
    → after_bound_groups bound_groups (r >>= λ bound_group. rest >>= λ others. Ok (bound_group ∷ others))
    ≡ (r >>= λ bound_group. after_bound_groups (bound_groups ++ bound_group ∷ []) rest)
after_bound_groups-next bound_groups (Ok bound_group) rest = after_bound_groups-append bound_groups bound_group rest
after_bound_groups-next bound_groups (Err fault) rest = refl

-- the bound group of assignment `i` is the next
pub bound_groups-first : (bound_groups : List BoundGroup) (variables : List Variable) (as' : List Assignment) (i : ℕ)
    (a : Assignment) → i < length as' → a ≡ get_or as' i a
    → after_bound_groups bound_groups (bound_groups_in variables (drop i as'))
    ≡ (bound_group_in variables a >>= λ bound_group. after_bound_groups (bound_groups ++ bound_group ∷ [])
    (bound_groups_in variables (drop (i + 1) as')))
unfolding bound_groups_in
bound_groups-first bound_groups variables as' i a lt e =
    ap (λ (rest : List Assignment). after_bound_groups bound_groups (bound_groups_in variables rest))
    (drop-element as' i a lt e)
    ∙ after_bound_groups-next bound_groups (bound_group_in variables a) (bound_groups_in variables (drop (i + 1) as'))

-- where assignment `i` has a bound group, it is added to those so far
pub bound_groups-step : (bound_groups : List BoundGroup) (variables : List Variable) (as' : List Assignment) (i : ℕ)
    (a : Assignment) (bound_group : BoundGroup) → i < length as' → a ≡ get_or as' i a → bound_group_in variables a
    ≡ Ok bound_group
    → after_bound_groups bound_groups (bound_groups_in variables (drop i as')) ≡ after_bound_groups
    (bound_groups ++ bound_group ∷ []) (bound_groups_in variables (drop (i + 1) as'))
bound_groups-step bound_groups variables as' i a bound_group lt e is =
    bound_groups-first bound_groups variables as' i a lt e
    ∙ ap (λ (r : Result BoundGroup BindFault). r >>= λ bound_group. after_bound_groups (bound_groups ++ bound_group
    ∷ []) (bound_groups_in variables (drop (i + 1) as'))) is

-- after the last assignment, the result is the bound groups so far
pub bound_groups-end : (bound_groups : List BoundGroup) (variables : List Variable) (as' : List Assignment) (i : ℕ)
    → length as' ≤ i → after_bound_groups bound_groups (bound_groups_in variables (drop i as')) ≡ Ok bound_groups
unfolding bound_groups_in
bound_groups-end bound_groups variables as' i le =
    ap (λ (rest : List Assignment). after_bound_groups bound_groups (bound_groups_in variables rest))
    (drop_of_length-le as' le) ∙ ap Ok (append-nil bound_groups)
