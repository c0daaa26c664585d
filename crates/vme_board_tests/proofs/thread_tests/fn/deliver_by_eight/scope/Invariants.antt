-- The loop that starts the threads, and the one that waits for them: the bench is one of the board's, and each thread's
-- promise is about that board.
use Rattle.std.proofs.Common.{◌≡◌, ℕ, ◌<◌, get_or, vec_items, vec_len}
use Rattle.std.specs.Vec.Iter.{into_iter_items, into_iter_len}
use Rattle.vme_board.specs.Benches.{IsOf}
use Rattle.vme_board_tests.proofs.thread_tests.fn.deliver_by_eight.scope.Given as goal

abbrev pub invariant-loop-k : goal.invariant-loop-k
invariant-loop-k g l = IsOf l.mine l.board.now × ((k : ℕ) (d : _) → k < vec_len l.handles
    → (get_or (vec_items l.handles) k d).promise.0.now ≡ l.board.now)

abbrev pub invariant-loop-handle : goal.invariant-loop-handle
invariant-loop-handle g l = IsOf l.all.bench l.board.now × ((k : ℕ) (d : _) → k < into_iter_len l.handle-iterator
    → (get_or (into_iter_items l.handle-iterator) k d).promise.0.now ≡ l.board.now)
