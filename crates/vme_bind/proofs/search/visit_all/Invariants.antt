-- The searches so far have visited the variable, and the rest are as before.
use Rattle.std.proofs.Common.{◌≡◌, map, take, drop}
use Rattle.std.specs.List.{All}
use Rattle.vcd_read.specs.Header.{variable_in}
use Rattle.vme_bind.specs.PathSearch.{HasOpened, found_in, with_candidate}
use Rattle.vme_bind.proofs.search.visit_all.Given as goal

abbrev pub invariant-loop-s : goal.invariant-loop-s
invariant-loop-s l =
    let variable = variable_in l.scopes l.variable.net l.variable.size
    (record { name = l.variable.name.now; index = l.variable.index }) in
    record {
      matched_scopes : All (HasOpened l.scopes) l.searches;
      done : map found_in (take l.s-index l.searches) ≡ map (with_candidate variable)
          (map found_in (take l.s-index l.fn.searches));
      rest : drop l.s-index l.searches ≡ drop l.s-index l.fn.searches;
    }
