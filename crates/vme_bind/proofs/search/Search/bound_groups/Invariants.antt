-- The searches so far have their bound groups: with those of the rest they are the bound groups of all.
use Rattle.std.proofs.Common.{◌≡◌, map, drop, vec_len, vec_capacity}
use Rattle.vme_bind.specs.PathSearch.{found_in, bound_groups_of}
use Rattle.vme_bind.proofs.BoundGroupLemmas.{after_bound_groups}
use Rattle.vme_bind.proofs.search.Search.bound_groups.Given as goal

abbrev pub invariant-loop-path_search : goal.invariant-loop-path_search
invariant-loop-path_search l =
    record {
      bound_groups : after_bound_groups l.bound_groups.items
          (bound_groups_of (map found_in (drop l.path_search-index l.self.searches.items))) ≡ bound_groups_of
          (map found_in l.self.searches.items);
      count : vec_len l.bound_groups ≡ l.path_search-index;
      capacity : vec_capacity l.bound_groups ≡ vec_len l.self.searches;
    }
