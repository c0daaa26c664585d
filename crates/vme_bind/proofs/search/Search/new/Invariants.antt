-- The assignments so far have a search that has found nothing, while no scope is open.
use Rattle.std.proofs.Common.{◌≡◌, [], map, take, length, vec_len, vec_capacity}
use Rattle.std.specs.List.{All}
use Rattle.vme_bind.specs.PathSearch.{HasOpened, found_in, none_found}
use Rattle.vme_bind.proofs.search.Search.new.Given as goal

abbrev pub invariant-loop-assignment : goal.invariant-loop-assignment
invariant-loop-assignment l =
    record {
      seen : map found_in l.searches.items ≡ map none_found (take l.assignment-index l.assignments);
      matched_scopes : All (HasOpened []) l.searches.items;
      count : vec_len l.searches ≡ l.assignment-index;
      capacity : vec_capacity l.searches ≡ length l.assignments;
    }
