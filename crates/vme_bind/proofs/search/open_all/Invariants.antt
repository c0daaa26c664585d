-- The searches so far have entered the scope that opens, and the rest are as before.
use Rattle.std.proofs.Common.{◌≡◌, map, take, drop}
use Rattle.vme_bind.specs.PathSearch.{opened}
use Rattle.vme_bind.proofs.search.open_all.Given as goal

abbrev pub invariant-loop-s : goal.invariant-loop-s
invariant-loop-s l =
    record {
      done : take l.s-index l.searches ≡ map (opened l.depth l.start l.part) (take l.s-index l.fn.searches);
      rest : drop l.s-index l.searches ≡ drop l.s-index l.fn.searches;
    }
