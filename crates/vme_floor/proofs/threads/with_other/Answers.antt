use Rattle.std.proofs.Common.{ℕ, List, ◌≡◌, ◌++◌, ◌∙◌, length, Result, IfOk, sym, ap, subst}
use Rattle.std.specs.declared.alloc.AllocError.{AllocError}
use Rattle.vme_trace.specs.declared.block.Block.{Block}
use Rattle.vme_core.specs.declared.view.View.{View}
use Rattle.vme_board.specs.Benches.{total_of, view_of}
use Rattle.vme_floor.specs.Collecting.{IsCollectedOf}
use Rattle.vme_floor.specs.declared.answer.Reply.{Reply}
use Rattle.vme_floor.specs.declared.collector.CollectingWorker.{CollectingWorker}
use Rattle.vme_floor.specs.declared.worker.Work.{Work}
use Rattle.vme_floor.specs.Works.{IsOtherWorkOf, IsWork}
use Rattle.vme_floor.proofs.Collecting.{IsCollected-joint}
use Rattle.vme_floor.proofs.Working.{IsWork-joint, AllFound-joint}
use Rattle.vme_floor.proofs.threads.with_other.Goals as goal

pub returns-clause-collected : goal.returns-clause-collected
returns-clause-collected c =
    let board = c.args.board.now in let ds : List Block = c.args.deliveries.now in let total : ℕ = total_of board in
    let P : Result CollectingWorker AllocError → Type 0 = λ r. IfOk r (λ all. IsCollectedOf board ds all) in
    let Q : Result Work AllocError → Type 0 = λ r. IfOk r (λ w. IsOtherWorkOf board ds w) in
    let first : CollectingWorker = c.in_ok-work.field-0 in let other : Work = c.in_ok-other_bench.field-0 in
    let a : IsCollectedOf board ds first = subst P c.in_ok-work.was c.requires.first in
    let b : IsOtherWorkOf board ds other = subst Q c.in_ok-other_bench.was c.requires.other in
    let fold = c.fold-bench.ensures in
    let v : View = view_of first.work.bench in let w : View = view_of other.bench in
    let u : View = view_of c.fold-bench.result in
    record {
      found = AllFound-joint v w u (length ds) fold.joint a.found;
      work = record {
        of = fold.board;
        draws = a.work.draws;
        did = subst (λ (rs : List Reply). IsWork total ds u rs) (sym c.in_ok-append.ensures.items)
            (IsWork-joint total ds v w u first.work.replies.items other.replies.items fold.joint a.work.did
            b.is_work.did
            fold.draws fold.lists);
      };
      collected = IsCollected-joint total v w u first.collection fold.joint b.takes a.collected;
    }

pub returns-clause-share : goal.returns-clause-share
returns-clause-share c s t a b =
    let x : (view_of c.in_ok-work.field-0.work.bench).share ≡ s = subst (λ (r : Result CollectingWorker AllocError).
    IfOk r (λ all. (view_of all.work.bench).share ≡ s)) c.in_ok-work.was a in
    let y : (view_of c.in_ok-other_bench.field-0.bench).share ≡ t = subst (λ (r : Result Work AllocError). IfOk r
    (λ work. (view_of work.bench).share ≡ t)) c.in_ok-other_bench.was b in
    ap (λ (u : View). u.share) c.fold-bench.ensures.joint ∙ (λ i. x i ++ y i)
