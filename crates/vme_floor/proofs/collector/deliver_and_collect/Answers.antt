use Rattle.std.proofs.Common.{◌≡◌, ℕ, List, ◌∙◌, subst, ap, slice_index_or}
use Rattle.std.proofs.lemmas.Option.{slice_get-get_or}
use Rattle.vme_trace.specs.declared.block.Block.{Block}
use Rattle.vme_core.specs.declared.view.View.{View}
use Rattle.vme_board.specs.Benches.{total_of, view_of}
use Rattle.vme_floor.specs.declared.answer.Reply.{Reply}
use Rattle.vme_floor.specs.Works.{number_at, number_in, IsDelivered, IsNext}
use Rattle.vme_floor.proofs.Collecting.{OwnAreTaken-next}
use Rattle.vme_floor.proofs.Working.{IsWork-more}
use Rattle.vme_floor.proofs.collector.deliver_and_collect.Goals as goal

pub draws-preserved : goal.draws-preserved
draws-preserved g c =
    let board = c.args.board.now in let ds : List Block = c.args.deliveries.now in let total : ℕ = total_of board in
    let reply : Reply = c.in-Some.reply in
    let u : View = view_of c.draws.work.bench in let v : View = view_of c.deliver_next.new.work.bench in
    let w : View = view_of c.collect_after.new.bench in
    let next : IsDelivered board ds u v reply = subst (IsNext board ds c.draws.work c.deliver_next.new.work)
    c.in-Some.is c.in_ok-reply.ensures.next in
    let done = c.in_ok-reply.ensures.work in let after = c.in_ok-collect_after.ensures in
    let b : Block = slice_index_or ds reply.delivery c.index-deliveries-reply.result in
    let n_is : number_at ds reply.delivery ≡ b.number = ap number_in (slice_get-get_or ds reply.delivery
    c.index-deliveries-reply.result next.within) in
    record {
      work = record {
        of = after.board;
        draws = done.draws;
        did = IsWork-more total ds v w
            c.deliver_next.new.work.replies.items after.rest.list after.rest.draws after.rest.sees done.did;
      };
      collected = after.collected;
      own = OwnAreTaken-next board ds u v w reply b.number next after.rest n_is after.gone c.draws.invariant.own;
      share = after.rest.share ∙ (c.in_ok-reply.ensures.share ∙ c.draws.invariant.share);
    }
