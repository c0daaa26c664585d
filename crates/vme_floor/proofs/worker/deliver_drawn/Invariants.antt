-- The loop over draws: the work holds what it should, and the bench's share is the same. After each round fewer draws
-- are still to be found won.
use Rattle.std.proofs.Common.{◌≡◌}
use Rattle.vme_board.specs.Benches.{draws_of, view_of}
use Rattle.vme_floor.specs.Works.{IsOtherWorkOf, unfound_below}
use Rattle.vme_floor.proofs.worker.deliver_drawn.Given as goal

abbrev pub invariant-draws : goal.invariant-draws
invariant-draws g l = record {
  other : IsOtherWorkOf l.board l.deliveries l.work;
  share : (view_of l.work.bench).share ≡ (view_of l.fn.bench).share;
}

abbrev pub decreases-draws : goal.decreases-draws
decreases-draws g l = unfound_below (draws_of l.board) (view_of l.work.bench).found
