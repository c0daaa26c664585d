use Rattle.std.proofs.Common.{rules, ◌+◌}
use Rattle.vme_board_tests.proofs.thread_tests.fn.deliver_by_eight.scope.Goals as goal

pub loop-handle-preserved : goal.loop-handle-preserved
loop-handle-preserved g c = let was = c.loop-handle.invariant in let step = c.in-Some.ensures.steps in
    (c.fold.ensures.board, λ k d below. let h = was.1 (k + 1) d in grind rules)
