-- The loop over blocks: both benches are of the board.
use Rattle.vme_board.specs.Benches.{IsOf}
use Rattle.vme_board_tests.proofs.tests.deliver_in_turn.Given as goal

abbrev pub invariant-loop-block : goal.invariant-loop-block
invariant-loop-block g l = IsOf l.first l.board × IsOf l.second l.board
