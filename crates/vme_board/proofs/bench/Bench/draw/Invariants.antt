-- The loop over draws: the bench is one of the board's, has won no further draw, and sees at least what it saw; but for
-- the draws that it found won, nothing changes.
use Rattle.std.proofs.Common.{◌-◌, ◌≡◌}
use Rattle.vme_core.specs.Stages.{SeesMore}
use Rattle.vme_board.specs.Benches.{IsOf, view_of}
use Rattle.vme_board.specs.Views.{SameNumbers}
use Rattle.vme_board.proofs.bench.Bench.draw.Given as goal

abbrev pub invariant-loop-self : goal.invariant-loop-self
invariant-loop-self l =
    IsOf l.self l.board × ((view_of l.self).draws ≡ (view_of l.initial.self).draws)
    × SameNumbers (view_of l.initial.self) (view_of l.self)
    × SeesMore (view_of l.initial.self) (view_of l.self)

abbrev pub decreases-loop-self : goal.decreases-loop-self
decreases-loop-self l = l.board.draws - l.self.next
