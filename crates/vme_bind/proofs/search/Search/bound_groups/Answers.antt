use Rattle.std.proofs.Common.{◌+◌, ◌++◌, ◌∷◌, [], drop, map, sym, ◌∙◌, ap, arith}
use Rattle.vme_bind.specs.PathSearch.{found_in, bound_group_of, bound_groups_of}
use Rattle.vme_bind.proofs.BindingLemmas.{BindFails-first}
use Rattle.vme_bind.proofs.BoundGroupLemmas.{after_bound_groups}
use Rattle.vme_bind.proofs.FoundLemmas.{bound_groups-first, bound_groups-step, bound_groups-end}
use Rattle.vme_bind.proofs.search.Search.bound_groups.Goals as goal

pub returns-in-Err : goal.returns-in-Err
returns-in-Err c =
    let all = c.args.self.now.searches.items in
    let i = c.loop-path_search.path_search-index in
    let bound_groups = c.loop-path_search.bound_groups.items in
    let lt = rw c.deref-path_search-items.ensures.value at c.loop-path_search-test.true in
    let item = rw c.deref-path_search-items.ensures.value at c.path_search-item.is in
    BindFails-first c.in-Err.field-0 (bound_group_of (found_in c.path_search-item.result))
    (λ bound_group. after_bound_groups
    (bound_groups ++ bound_group ∷ []) (bound_groups_of (map found_in (drop (i + 1) all)))) _
    (sym c.loop-path_search.invariant.bound_groups ∙ bound_groups-first bound_groups all i c.path_search-item.result lt
    item) c.in-Err.ensures

pub loop-path_search-preserved : goal.loop-path_search-preserved
loop-path_search-preserved c =
    let all = c.args.self.now.searches.items in
    let i = c.loop-path_search.path_search-index in
    let bound_groups = c.loop-path_search.bound_groups.items in
    let lt = rw c.deref-path_search-items.ensures.value at c.loop-path_search-test.true in
    let item = rw c.deref-path_search-items.ensures.value at c.path_search-item.is in
    record {
      bound_groups =
          ap (λ ws. after_bound_groups ws (bound_groups_of (map found_in (drop (i + 1) all))))
          c.push_reserved.ensures.items
          ∙ sym (bound_groups-step bound_groups all i c.path_search-item.result c.in-Ok.bound_group lt item
          c.in-Ok.ensures)
          ∙ c.loop-path_search.invariant.bound_groups;
      count = omega (arith, c.push_reserved.ensures.len, c.loop-path_search.invariant.count);
      capacity = c.push_reserved.ensures.capacity ∙ c.loop-path_search.invariant.capacity;
    }

pub returns : goal.returns
returns c = sym c.loop-path_search.invariant.bound_groups ∙ bound_groups-end c.loop-path_search.bound_groups.items
    c.args.self.now.searches.items c.loop-path_search.path_search-index (rw c.deref-path_search-items.ensures.value at
    c.loop-path_search-test.false)
