-- The loop over the numbers from `next` on: the bench only took blocks, those that it took are in the collection, and a
-- number that was filed is known to be taken.
use Rattle.std.proofs.Common.{◌≡◌}
use Rattle.vme_board.specs.Benches.{IsOf, total_of, view_of}
use Rattle.vme_floor.specs.Collecting.{IsCollected, IsKnownTaken, TakesOnly}
use Rattle.vme_floor.specs.declared.answer.Answer.TheVariants.{Filed}
use Rattle.vme_floor.proofs.collector.Collection.collect_after.Given as goal

abbrev pub invariant-loop-next : goal.invariant-loop-next
invariant-loop-next l = record {
  of : IsOf l.bench l.board;
  rest : TakesOnly (view_of l.initial.bench) (view_of l.bench);
  collected : IsCollected (total_of l.board) (view_of l.bench) l.self;
  gone : l.fn.answer ≡ Filed → IsKnownTaken (view_of l.bench) l.number;
}
