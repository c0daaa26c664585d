-- The threads begin with a share of the board each, and the work of all together has the whole of it.
use Rattle.std.proofs.Common.{rules, ◌≡◌, ℕ, suc, IfOk, Ok, Err, refl, le_refl, get_or, length, length-append, vec_len}
use Rattle.std.proofs.Common.{vec_items, None, ◌+◌, ◌++◌, [], ◌∷◌, List, Result, ◌∙◌, sym, ap, subst, arith}
use Rattle.std.proofs.lemmas.Option.{none-some}
use Rattle.std.specs.declared.alloc.AllocError.{AllocError}
use Rattle.std.specs.declared.thread.PromisedHandle.{PromisedHandle}
use Rattle.vme_core.specs.declared.view.View.{View}
use Rattle.vme_board.specs.Benches.{total_of, view_of}
use Rattle.vme_floor.specs.Collecting.{IsCollected}
use Rattle.vme_floor.specs.declared.threads.WorkContext.{WorkContext}
use Rattle.vme_floor.specs.declared.worker.Work.{Work}
use Rattle.vme_floor.proofs.Places.{all-append_one, all-append_one_at}
use Rattle.vme_floor.proofs.Sharing.{upto, IsWholeShare-upto}
use Rattle.vme_core.specs.Shares.{kept_share, IsWholeShare}
use Rattle.std.specs.Vec.Iter.{into_iter_items, into_iter_len}
use Rattle.vme_board.specs.declared.bench.Bench.{Bench}
use Rattle.vme_floor.specs.declared.collector.CollectingWorker.{CollectingWorker}
use Rattle.vme_core.specs.Views.{kept_view}
use Rattle.vme_floor.proofs.Collecting.{IsCollected-same}
use Rattle.vme_floor.proofs.threads.work_in_scope.Goals.{else-loop-worker-test, then-loop-worker-test+then-is_err}
use Rattle.vme_floor.proofs.threads.work_in_scope.Goals.{then-loop-worker-test+else-is_err+in-Err}
use Rattle.vme_floor.proofs.threads.work_in_scope.Goals as goal

-- the handle of a thread, which promises a worker's work
abbrev Handle : Type 0
Handle = PromisedHandle (Result Work AllocError) WorkContext

-- the share of a thread's work, by its worker's number
share-of_work : (r : Result Work AllocError) (P : Work → Type 0) (m n : ℕ)
    → IfOk r (λ work. P work × ((view_of work.bench).share ≡ m ∷ [])) → m ≡ n
    → IfOk r (λ work. (view_of work.bench).share
    ≡ n ∷ [])
share-of_work (Ok work) P m n k is = k.1 ∙ ap (λ (x : ℕ). x ∷ []) is
share-of_work (Err e) P m n k is = tt

pub loop-handle-preserved : goal.loop-handle-preserved
loop-handle-preserved g c = record {
  next = tt;
  finite = tt;
  assignments = λ k d below. let was = c.loop-handle.invariant.assignments in let step = c.in-Some.ensures.steps in
      let h = was (k + 1) d in grind rules;
  all = c.with_other-all.ensures.collected;
  shares = λ fine. let was = c.loop-handle.invariant.shares fine in let m : ℕ = was.0 in let t : ℕ = was.1 in
      let step = c.in-Some.ensures.steps in let steps = step.1
      in let none_out = c.loop-handle.invariant.assignments in (
        m,
        suc t,
        omega (arith, was.2, steps),
        (λ k d below. ap (λ (l : List Handle). (get_or l (suc k) d).promise.worker) (sym step.0)
            ∙ (was.3 (suc k) d (omega (arith, below, steps)) ∙ (let e : t + suc k + 1 ≡ suc t + k + 1 = omega arith in
            e))),
        c.with_other-all.ensures.share (m ∷ upto t) (suc t ∷ []) was.4
            (share-of_work c.join.result _ c.in-Some.handle.promise.worker (suc t) c.join.ensures
            (ap (λ (l : List Handle). (get_or l 0 c.in-Some.handle).promise.worker) (sym step.0)
            ∙ (was.3 0 c.in-Some.handle (omega (arith, steps)) ∙ (let e : t + 0 + 1 ≡ suc t = omega arith in e)))),
      );
  own = λ one. let none = (c.loop-handle.invariant.own one).0 in let step = c.in-Some.ensures.steps.1 in
      absurd (omega (arith, none, step));
}

pub returns-in-Some-fault-clause-alone : goal.returns-in-Some-fault-clause-alone
returns-in-Some-fault-clause-alone g c is = elim c.loop-worker-test.branch [
  | else-loop-worker-test w ↦ absurd (none-some c.in-Some-fault.fault (sym c.loop-worker.invariant.fault
      ∙ (sym w.fault-is ∙ c.in-Some-fault.is)))
  | then-loop-worker-test+then-is_err w ↦ let t = w.loop-worker-test.true in let a = c.loop-worker.auto.worker in
      omega arith
  | then-loop-worker-test+else-is_err+in-Err w ↦ let t = w.loop-worker-test.true in let a = c.loop-worker.auto.worker in
      omega arith
]

pub loop-worker-preserved : goal.loop-worker-preserved
loop-worker-preserved g c =
    let was = c.loop-worker.invariant in let split = c.split-own.ensures in
    let held : List Handle = c.loop-worker.handles.items in
    let more : suc (vec_len c.loop-worker.handles) ≡ vec_len c.push_reserved.new.self = let a =
    c.loop-worker.handles.ok.0 in let b = c.push_reserved.new.self.ok.0 in
    let e = ap length c.push_reserved.ensures.items in let f = ap length c.reserve.ensures.items in
    let l = length-append c.reserve.new.self.items (c.in-Ok.handle ∷ []) in omega (arith, a, b, e, f, l) in
    let P : Handle → Type 0 = λ h. (h.promise.board.now ≡ c.args.board.now)
    × (h.promise.deliveries.now ≡ c.args.deliveries.now) in
    record {
      fault = was.fault;
      new = record {
        of = split.board.0;
        draws = was.new.draws;
        no_list = ap (λ (v : View). v.list) split.old ∙ was.new.no_list;
        no_takes = ap (λ (v : View). v.takes) split.old ∙ was.new.no_takes;
        no_draws = ap (λ (v : View). v.draws) split.old ∙ was.new.no_draws;
      };
      collected = subst (λ (v : View). IsCollected (total_of c.args.board.now) v c.args.collection) (sym split.old)
          (IsCollected-same (total_of c.args.board.now) (view_of c.loop-worker.bench)
          (kept_view (view_of c.loop-worker.bench)) c.args.collection was.collected refl (λ n. le_refl _));
      share = ap (λ (v : View). v.share) split.old ∙ (ap kept_share was.share ∙ ap (λ (n : ℕ). n ∷ []) more);
      count = omega (arith, was.count, more);
      workers = λ k d below. all-append_one_at (λ n h. h.promise.worker ≡ n + 1) held c.push_reserved.new.self.items
          c.in-Ok.handle (c.push_reserved.ensures.items ∙ ap (λ hs. hs ++ c.in-Ok.handle ∷ []) c.reserve.ensures.items)
          (ap (λ (a : WorkContext). a.worker) c.in-Ok.ensures.ok
          ∙ (was.count ∙ ap (λ (n : ℕ). n + 1) c.loop-worker.handles.ok.0))
          (λ l e low. was.workers l e (let long = c.loop-worker.handles.ok.0 in omega (arith, low, long))) k d
          (let long = c.push_reserved.new.self.ok.0 in omega (arith, below, long));
      none = λ one. let t = c.loop-worker-test.true in let a = c.loop-worker.auto.worker in absurd (omega arith);
      assignments = λ k d below. all-append_one P held c.push_reserved.new.self.items c.in-Ok.handle
          (c.push_reserved.ensures.items ∙ ap (λ hs. hs ++ c.in-Ok.handle ∷ []) c.reserve.ensures.items) (
            ap (λ (a : WorkContext). a.board.now) c.in-Ok.ensures.ok,
            ap (λ (a : WorkContext). a.deliveries.now)
                c.in-Ok.ensures.ok,
          )
          (λ l e low. was.assignments l e (let long = c.loop-worker.handles.ok.0 in omega (arith, low, long))) k d
          (let long = c.push_reserved.new.self.ok.0 in omega (arith, below, long));
    }

-- a share may be replaced by an equal one
share-same : (r : Result CollectingWorker AllocError) (s u : List ℕ)
    → IfOk r (λ all. (view_of all.work.bench).share ≡ s)
    → s ≡ u → IfOk r (λ all. (view_of all.work.bench).share ≡ u)
share-same (Ok all) s u a is = a ∙ is
share-same (Err e) s u a is = tt

pub loop-handle-init : goal.loop-handle-init
loop-handle-init g c =
    let gives = c.into_iter-handle-iterator.ensures.into_iter_gives in let was = c.loop-worker.invariant in
    let old : List Handle = c.loop-worker.handles.items in let H = c.loop-worker-test.handles in let long = gives.1 in
    let same : vec_items H ≡ old = elim c.loop-worker-test.branch [
      | else-loop-worker-test w ↦ ap vec_items w.handles-is
      | then-loop-worker-test+then-is_err w ↦ ap vec_items w.handles-is ∙ w.reserve.ensures.items
      | then-loop-worker-test+else-is_err+in-Err w ↦ ap vec_items w.handles-is ∙ w.reserve.ensures.items
    ] in
    let count : vec_len c.loop-worker.handles ≡ into_iter_len c.into_iter-handle-iterator.result = let a = H.ok.0 in
    let b = c.loop-worker.handles.ok.0 in let e = ap length same in omega (arith, long, a, b, e) in
    let all_same : into_iter_items c.into_iter-handle-iterator.result ≡ old = gives.0 ∙ same in record {
      next = tt;
      finite = tt;
      assignments = λ k d below. subst (λ (l : List Handle). ((get_or l k d).promise.board.now ≡ c.args.board.now)
          × ((get_or l k d).promise.deliveries.now ≡ c.args.deliveries.now)) (sym all_same)
          (was.assignments k d (omega (arith, below, count)));
      all = c.deliver_and_collect-all.ensures.collected;
      shares = λ fine. elim c.loop-worker-test.branch [
        | else-loop-worker-test w ↦ (
          vec_len c.loop-worker.handles,
          0,
          omega (arith, count),
          (λ k d below. ap (λ (l : List Handle). (get_or l k d).promise.worker) all_same
              ∙ (was.workers k d (omega (arith, below, count)) ∙ (let e : k + 1 ≡ 0 + k + 1 = omega arith in e))),
          share-same c.deliver_and_collect-all.result (view_of c.loop-worker-test.bench).share
              (vec_len c.loop-worker.handles ∷ []) c.deliver_and_collect-all.ensures.share
              (ap (λ (b : Bench). (view_of b).share) w.bench-is ∙ was.share),
        )
        | then-loop-worker-test+then-is_err w ↦ absurd (none-some _ (sym fine ∙ w.fault-is))
        | then-loop-worker-test+else-is_err+in-Err w ↦ absurd (none-some _ (sym fine ∙ w.fault-is))
      ];
      own = λ one. (
        let none_out = was.none one in omega (arith, none_out, count),
        c.deliver_and_collect-all.ensures.own,
      );
    }

pub returns-in-Ok-all-clause-whole : goal.returns-in-Ok-all-clause-whole
returns-in-Ok-all-clause-whole g c =
    let fine : c.loop-worker-test.fault ≡ None = elim c.loop-worker-test.branch [
      | else-loop-worker-test w ↦ w.fault-is ∙ c.loop-worker.invariant.fault
      | then-loop-worker-test+then-is_err w ↦ absurd (c.in_default.not-Some _ w.fault-is)
      | then-loop-worker-test+else-is_err+in-Err w ↦ absurd (c.in_default.not-Some _ w.fault-is)
    ] in
    let was = c.loop-handle.invariant.shares fine in let m : ℕ = was.0 in let t : ℕ = was.1 in
    let none_out = c.in-None.ensures.steps.0 in
    let done : t ≡ m = let k = was.2 in omega (arith, k, none_out) in
    let here : (view_of c.in-Ok-all.all.work.bench).share ≡ m
    ∷ upto t = subst (λ (r : Result CollectingWorker AllocError). IfOk r (λ all. (view_of all.work.bench).share ≡ m
    ∷ upto t)) c.in-Ok-all.is was.4 in
    subst (λ (s : List ℕ). IsWholeShare s) (sym (here ∙ ap (λ (n : ℕ). m ∷ upto n) done)) (IsWholeShare-upto m)
