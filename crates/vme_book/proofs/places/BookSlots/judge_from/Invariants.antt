-- The loop over the numbers: the blocks so far are inserted and join, and `progress` is the state of judging after
-- them.
use Rattle.std.proofs.Common.{List}
use Rattle.vme_trace.specs.declared.block.Block.{Block}
use Rattle.vme_book.specs.BookState.{IsJudgedPrefix}
use Rattle.vme_book.proofs.places.BookSlots.judge_from.Given as goal

abbrev pub invariant-loop-number : goal.invariant-loop-number
invariant-loop-number l = (bs : List Block) × IsJudgedPrefix l.self.blocks.items l.progress l.number bs
