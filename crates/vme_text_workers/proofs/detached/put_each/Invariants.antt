-- The results so far are at their places, and those that are left are of their calls.
use Rattle.std.proofs.Common.{All, vec_len}
use Rattle.std.specs.Prelude.{IfSome}
use Rattle.vme_text_workers.specs.Calls.{ArePairedResults, AreResultsByPlace}
use Rattle.vme_text_workers.proofs.detached.put_each.Given as goal

abbrev pub invariant-loop-taken : goal.invariant-loop-taken
invariant-loop-taken g l = record {
  left : All (λ taken. IfSome taken (λ ones. ArePairedResults (goal.F-post g l._f) ones.items)) l.left.items;
  all : AreResultsByPlace (goal.F-post g l._f) l.all;
}

abbrev pub decreases-loop-taken : goal.decreases-loop-taken
decreases-loop-taken g l = vec_len l.left
