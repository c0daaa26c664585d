-- Two loops. While threads are started, no fault is there, the bench is new, and each thread so far is a worker with
-- its number. While they are joined, the work of those so far is collected, and has their shares.
use Rattle.std.proofs.Common.{◌≡◌, ℕ, ◌+◌, ◌<◌, [], ◌∷◌, vec_len, vec_items, get_or, None, IfOk}
use Rattle.std.specs.Vec.Iter.{into_iter_items, into_iter_len}
use Rattle.vme_board.specs.Benches.{total_of, view_of}
use Rattle.vme_floor.specs.Collecting.{IsCollected, IsCollectedOf, OwnAreTaken}
use Rattle.vme_floor.specs.Works.{IsNew}
use Rattle.vme_floor.proofs.Sharing.{upto}
use Rattle.vme_floor.proofs.threads.work_in_scope.Given as goal

abbrev pub invariant-loop-worker : goal.invariant-loop-worker
invariant-loop-worker g l = record {
  fault : l.fault ≡ None;
  new : IsNew l.board l.deliveries l.bench;
  collected : IsCollected (total_of l.board) (view_of l.bench) l.collection;
  share : (view_of l.bench).share ≡ vec_len l.handles ∷ [];
  count : l.worker ≡ vec_len l.handles + 1;
  workers : (k : ℕ) (d : _) → k < vec_len l.handles → (get_or (vec_items l.handles) k d).promise.worker ≡ k + 1;
  none : l.workers ≡ 1 → vec_len l.handles ≡ 0;
  assignments : (k : ℕ) (d : _) → k < vec_len l.handles → ((get_or (vec_items l.handles) k d).promise.board.now
      ≡ l.board) × ((get_or (vec_items l.handles) k d).promise.deliveries.now ≡ l.deliveries);
}

abbrev pub invariant-loop-handle : goal.invariant-loop-handle
invariant-loop-handle g l = record {
  next : (goal.iterator-loop-handle g).can_next l.handle-iterator;
  finite : (goal.iterator-loop-handle g).is_finite l.handle-iterator;
  assignments : (k : ℕ) (d : _) → k < into_iter_len l.handle-iterator
      → ((get_or (into_iter_items l.handle-iterator) k d).promise.board.now ≡ l.board)
      × ((get_or (into_iter_items l.handle-iterator) k d).promise.deliveries.now ≡ l.deliveries);
  all : IfOk l.all (λ c. IsCollectedOf l.board l.deliveries c);
  shares : l.fault ≡ None → (m t : ℕ) × (m ≡ t + into_iter_len l.handle-iterator)
      × ((k : ℕ) (d : _) → k < into_iter_len l.handle-iterator
      → (get_or (into_iter_items l.handle-iterator) k d).promise.worker ≡ t + k + 1)
      × IfOk l.all (λ c. (view_of c.work.bench).share ≡ m ∷ upto t);
  own : l.workers ≡ 1 → (into_iter_len l.handle-iterator ≡ 0) × IfOk l.all (λ c. OwnAreTaken (view_of c.work.bench));
}
