use Rattle.vme_board.specs.Benches.{IsOf}
use Rattle.vme_pod_check_tests.proofs.tests.filed_by.Given as goal

abbrev pub invariant-loop-block : goal.invariant-loop-block
invariant-loop-block l = IsOf l.bench l.board
