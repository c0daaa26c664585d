use Rattle.std.proofs.Common.{◌≡◌, ℕ, ◌<◌, ◌++◌, [], ◌∷◌, List, Some, ◌∙◌, sym, subst, ap, arith, length, slice_get}
use Rattle.std.proofs.lemmas.Option.{slice_get-get_or}
use Rattle.vme_trace.specs.declared.block.Block.{Block}
use Rattle.vme_core.specs.Counting.{occurrences}
use Rattle.vme_core.specs.declared.view.View.{View}
use Rattle.vme_board.specs.Benches.{draws_of, total_of, view_of}
use Rattle.vme_floor.specs.Answering.{IsRightAnswer}
use Rattle.vme_floor.specs.declared.answer.Answer.{Answer}
use Rattle.vme_floor.specs.declared.answer.Reply.{Reply}
use Rattle.vme_floor.specs.Accounts.{reply_of}
use Rattle.vme_floor.specs.Works.{number_at, number_in, IsKnownFiled, IsWork, IsListAfter}
use Rattle.vme_floor.proofs.Collecting.{SeesMore-transitive}
use Rattle.vme_floor.proofs.Working.{IsOldOrFiled-list_after, unfound_below-lt, number-below_total, IsWork-next}
use Rattle.vme_floor.proofs.worker.deliver_next.Goals as goal

pub returns-clause-work : goal.returns-clause-work
returns-clause-work g c =
    let total : ℕ = total_of c.args.board.now in let ds : List Block = c.args.deliveries.now in
    let d : ℕ = c.in-Some.delivery in let draw = c.in-Some.ensures in let was = c.requires.work in
    let delivered = c.deliver_copy-answer in let b : Block = c.index-deliveries-delivery.result in
    let near : d < length ds = omega (arith, draw.some, was.draws) in
    let at : slice_get ds d ≡ Some b = slice_get-get_or ds d b near ∙ ap (λ (x : Block). Some x)
    (sym c.index-deliveries-delivery.is) in
    record {
      of = delivered.ensures.board;
      draws = was.draws;
      did = subst (λ (rs : List Reply). IsWork total ds (view_of delivered.new.bench) rs)
          (sym (c.push_reserved.ensures.items ∙ ap (λ (rs : List Reply). rs ++ reply_of d delivered.result ∷ [])
          c.reserve.ensures.items))
          (IsWork-next total ds (view_of c.args.work.now.bench) (view_of c.draw.new.self) (view_of delivered.new.bench)
          c.args.work.now.replies.items d b delivered.result was.did draw.fresh.0 draw.won draw.rest.list
          delivered.ensures.draws.draws delivered.ensures.suits delivered.ensures.lists near at
          (SeesMore-transitive (view_of c.args.work.now.bench) (view_of c.draw.new.self) (view_of delivered.new.bench)
          draw.grows
          delivered.ensures.sees) delivered.ensures.doubled);
    }

pub returns-clause-next : goal.returns-clause-next
returns-clause-next g c =
    let board = c.args.board.now in let ds : List Block = c.args.deliveries.now in let d : ℕ = c.in-Some.delivery in
    let draw = c.in-Some.ensures in let was = c.requires.work in
    let delivered = c.deliver_copy-answer in let b : Block = c.index-deliveries-delivery.result in
    let a : Answer = delivered.result in
    let u : View = view_of c.args.work.now.bench in let v : View = view_of c.draw.new.self in
    let w : View = view_of delivered.new.bench in
    let near : d < length ds = omega (arith, draw.some, was.draws) in
    let at : slice_get ds d ≡ Some b = slice_get-get_or ds d b near ∙ ap (λ (x : Block). Some x)
    (sym c.index-deliveries-delivery.is) in
    let n_is : number_at ds d ≡ b.number = ap number_in at in
    let same_at : (e : ℕ) → occurrences e w.found ≡ occurrences e v.found = λ e. ap (occurrences e)
    delivered.ensures.draws.found in
    let found = draw.found d (omega arith) in
    let lists : IsListAfter u.list w.list b a = subst (λ xs. IsListAfter xs w.list b a) draw.rest.list
    delivered.ensures.lists in
    record {
      within = near;
      less = unfound_below-lt (draws_of board) u.found w.found (λ e. omega (arith, same_at e, draw.grows.found e)) d
          draw.some
          draw.fresh.1 (omega (arith, same_at d, found));
      takes = delivered.ensures.takes ∙ draw.rest.takes;
      sees = SeesMore-transitive u v w draw.grows delivered.ensures.sees;
      filed = λ is. subst (λ (m : ℕ). IsKnownFiled (total_of board) w m) (sym n_is)
          (record {
            within =
                number-below_total (total_of board) b (subst (λ (x : Answer). IsRightAnswer (total_of board) b x) is
                delivered.ensures.suits);
            sees = delivered.ensures.filed is;
          });
      lists = λ n some. IsOldOrFiled-list_after ds u.list w.list d b a at lists n some;
    }
