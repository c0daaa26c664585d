-- The loop over blocks: the bench is one of the board's.
use Rattle.vme_board.specs.Benches.{IsOf}
use Rattle.vme_board_tests.proofs.thread_tests.deliver_half.Given as goal

abbrev pub invariant-loop-block : goal.invariant-loop-block
invariant-loop-block l = IsOf l.bench l.board
