-- The results so far are at their places, and those that are left are of their calls.
use Rattle.std.proofs.Common.{vec_len}
use Rattle.vme_text_workers.specs.Calls.{ArePairedResults, AreResultsByPlace}
use Rattle.vme_text_workers.proofs.detached.put_taken.Given as goal

abbrev pub invariant-loop-place : goal.invariant-loop-place
invariant-loop-place g l = record {
  left : ArePairedResults (goal.F-post g l._f) l.left.items;
  all : AreResultsByPlace (goal.F-post g l._f) l.all;
}

abbrev pub decreases-loop-place : goal.decreases-loop-place
decreases-loop-place g l = vec_len l.left
