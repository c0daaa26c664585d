use Rattle.std.proofs.Common.{◌∙◌, sym, arith}
use Rattle.std.specs.Mem.Slots.{slots_items}
use Rattle.vme_board.proofs.board.Board.close.Goals as goal
use Rattle.vme_board.proofs.board.Board.close.Goals.{After-emptied-contents}
use Rattle.vme_board.proofs.Endings.{IsClosed, AreNumbered-closed, HasList-closed, LacksTakes-closed, HasUntaken-closed}
use Rattle.vme_board.proofs.Endings.{HasOnlyList-closed, LacksOthers-closed}
use Rattle.vme_board.proofs.Endings.{list_length-bound, takes_length-bound, filled_count-plus_taken, filed_sum-limit}
use Rattle.vme_board.proofs.Endings.{filed_sum-whole_share, taken_sum-whole_share, DidAll-whole_share}

-- the board is closed, as the lemmas on its last state take it
closed : (c : After-emptied-contents) → IsClosed c.args.self.table.shared.key c.args.bench.seat.id
    c.args.bench.seat.me.0 (slots_items c.close_with.result.words) (slots_items c.close_with.result.slots)
    c.emptied-contents.result.0.items c.args.self.total
closed c = record {
  long = sym c.close_with.result.slots.ok.0 ∙ (c.close_with.ensures.counts.1 ∙ c.args.self.sized.1);
  last = c.close_with.ensures.values.2;
  each = c.emptied-contents.ensures.contents;
}

pub overflow_sub-result : goal.overflow_sub-result
overflow_sub-result c =
    let had = c.args.bench.counted in let filed = c.emptied-contents.ensures.filed in
    let few = list_length-bound (closed (goal.at.overflow_sub-result c).After-emptied-contents) in
    omega (arith, few, had.0, filed)

pub overflow_sub-result-2 : goal.overflow_sub-result-2
overflow_sub-result-2 c =
    let had = c.args.bench.counted in let taken = c.emptied-contents.ensures.taken in
    let few = takes_length-bound (closed (goal.at.overflow_sub-result-2 c).After-emptied-contents) in
    omega (arith, few, had.1, taken)

pub returns-clause-numbered : goal.returns-clause-numbered
returns-clause-numbered c =
    AreNumbered-closed (closed (goal.at.returns-clause-numbered c).After-emptied-contents)
    c.emptied-contents.ensures.length

pub returns-clause-listed : goal.returns-clause-listed
returns-clause-listed c = HasList-closed (closed (goal.at.returns-clause-listed c).After-emptied-contents)

pub returns-clause-kept : goal.returns-clause-kept
returns-clause-kept c none n b =
    let had = c.args.bench.counted in let taken = c.emptied-contents.ensures.taken in
    HasUntaken-closed (closed (goal.at.returns-clause-kept c).After-emptied-contents) n b
    (omega (arith, none, had.1, taken))

pub returns-clause-gone : goal.returns-clause-gone
returns-clause-gone c = LacksTakes-closed (closed (goal.at.returns-clause-gone c).After-emptied-contents)

pub returns-clause-only : goal.returns-clause-only
returns-clause-only c none =
    let had = c.args.bench.counted in let filed = c.emptied-contents.ensures.filed in
    HasOnlyList-closed (closed (goal.at.returns-clause-only c).After-emptied-contents) c.emptied-contents.ensures.length
    (omega (arith, none, had.0, filed))

pub returns-clause-outside : goal.returns-clause-outside
returns-clause-outside c none n low =
    let had = c.args.bench.counted in let filed = c.emptied-contents.ensures.filed in
    let long = c.emptied-contents.ensures.length in
    LacksOthers-closed (closed (goal.at.returns-clause-outside c).After-emptied-contents) n
    (omega (arith, none, had.0, filed)) (omega (arith, low, long))

pub returns-clause-counts : goal.returns-clause-counts
returns-clause-counts c =
    let had = c.args.bench.counted in let filed = c.emptied-contents.ensures.filed in
    let taken = c.emptied-contents.ensures.taken in
    let end = closed (goal.at.returns-clause-counts c).After-emptied-contents in
    let few = list_length-bound end in let few_taken = takes_length-bound end in
    let all = filled_count-plus_taken end c.emptied-contents.ensures.length in
    omega (arith, few, few_taken, all, had.0, had.1, filed, taken)

pub returns-clause-within : goal.returns-clause-within
returns-clause-within c =
    let had = c.args.bench.counted in let filed = c.emptied-contents.ensures.filed in
    let end = closed (goal.at.returns-clause-within c).After-emptied-contents in
    let few = list_length-bound end in let all = filed_sum-limit end in omega (arith, few, all, had.0, filed)

pub returns-clause-saw_filed : goal.returns-clause-saw_filed
returns-clause-saw_filed c =
    let had = c.args.bench.counted in let filed = c.emptied-contents.ensures.filed in
    let few = list_length-bound (closed (goal.at.returns-clause-saw_filed c).After-emptied-contents) in
    omega (arith, few, had.0, filed)

pub returns-clause-saw_taken : goal.returns-clause-saw_taken
returns-clause-saw_taken c =
    let had = c.args.bench.counted in let taken = c.emptied-contents.ensures.taken in
    let few = takes_length-bound (closed (goal.at.returns-clause-saw_taken c).After-emptied-contents) in
    omega (arith, few, had.1, taken)

pub returns-clause-no_others : goal.returns-clause-no_others
returns-clause-no_others c whole =
    let had = c.args.bench.counted in let filed = c.emptied-contents.ensures.filed in
    let same = filed_sum-whole_share (closed (goal.at.returns-clause-no_others c).After-emptied-contents) whole in
    omega (arith, same, had.0, filed)

pub returns-clause-no_taken : goal.returns-clause-no_taken
returns-clause-no_taken c whole =
    let had = c.args.bench.counted in let taken = c.emptied-contents.ensures.taken in
    let same = taken_sum-whole_share (closed (goal.at.returns-clause-no_taken c).After-emptied-contents) whole in
    omega (arith, same, had.1, taken)

pub returns-clause-did_all : goal.returns-clause-did_all
returns-clause-did_all c whole =
    DidAll-whole_share (closed (goal.at.returns-clause-did_all c).After-emptied-contents) whole c.args.bench.not_pending
