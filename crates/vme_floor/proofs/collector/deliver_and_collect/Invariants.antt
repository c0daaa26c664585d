-- The loop over draws: the work and the collection hold what they should, each block that the bench filed was taken,
-- and its share is the same. After each round fewer draws are still to be found won.
use Rattle.std.proofs.Common.{◌≡◌}
use Rattle.vme_board.specs.Benches.{draws_of, total_of, view_of}
use Rattle.vme_floor.specs.Collecting.{IsCollected, OwnAreTaken}
use Rattle.vme_floor.specs.Works.{IsWorkOf, unfound_below}
use Rattle.vme_floor.proofs.collector.deliver_and_collect.Given as goal

abbrev pub invariant-draws : goal.invariant-draws
invariant-draws g l = record {
  work : IsWorkOf l.board l.deliveries l.work;
  collected : IsCollected (total_of l.board) (view_of l.work.bench) l.collection;
  own : OwnAreTaken (view_of l.work.bench);
  share : (view_of l.work.bench).share ≡ (view_of l.fn.bench).share;
}

abbrev pub decreases-draws : goal.decreases-draws
decreases-draws g l = unfound_below (draws_of l.board) (view_of l.work.bench).found
