-- The loop over the numbers: the blocks so far are joined to those before, and the blocks after them have their spans.
use Rattle.std.proofs.Common.{◌≡◌, List}
use Rattle.vme_trace.specs.declared.block.Block.{Block}
use Rattle.vme_book.specs.BookState.{AreJoinedTo, HaveSpans}
use Rattle.vme_book.proofs.joined.JoinedPrefix.join_up_to.Given as goal

abbrev pub invariant-loop-number : goal.invariant-loop-number
invariant-loop-number l = record {
  at : l.self.count ≡ l.number;
  blocks : l.places.blocks ≡ l.fn.places.blocks;
  waiting : HaveSpans l.fn.places.blocks.items l.places.spans.items l.self.count;
  joined : (xs : List Block) × AreJoinedTo l.fn.places.blocks.items l.self xs;
}
