-- The searches so far have left the scope that closes, and the rest are as before.
use Rattle.std.proofs.Common.{◌≡◌, map, take, drop}
use Rattle.vme_bind.specs.PathSearch.{closed}
use Rattle.vme_bind.proofs.search.close_all.Given as goal

abbrev pub invariant-loop-s : goal.invariant-loop-s
invariant-loop-s l =
    record {
      done : take l.s-index l.searches ≡ map (closed l.depth) (take l.s-index l.fn.searches);
      rest : drop l.s-index l.searches ≡ drop l.s-index l.fn.searches;
    }
