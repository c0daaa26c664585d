-- The loop over a share: the bench is one of the board's.
use Rattle.vme_board.specs.Benches.{IsOf}
use Rattle.vme_board_tests.proofs.thread_tests.deliver_share.Given as goal

abbrev pub invariant-loop-k : goal.invariant-loop-k
invariant-loop-k l = IsOf l.work.bench l.board
