-- A block is inserted at this number, and at each number before it.
use Rattle.std.proofs.Common.{◌≡◌, Some, below_more, ◌∙◌, sym, ap, get_or, None}
use Rattle.vme_trace.specs.declared.block.Block.{Block}
use Rattle.vme_book.specs.Inserted.{stored}
use Rattle.vme_book.proofs.Prefixes.{get_or-of_read, is_some-value}
use Rattle.vme_book.proofs.places.BookSlots.missing.Goals as goal

pub loop-number-preserved : goal.loop-number-preserved
loop-number-preserved c =
    let blocks = c.args.self.now.blocks.items in
    let n = c.loop-number.number in
    let b = is_some-value c.block-item.result c.if-is_none.ensures in
    let same = c.deref-block-items.ensures.value in
    let there = get_or-of_read c.deref-block-items.result.now n c.block-item.result b.0 c.loop-number-test.true
    c.block-item.is b.1 in
    let here : stored blocks n ≡ Some b.0 = ap (λ l. get_or l n None) (sym same) ∙ there in
    below_more (λ k. (x : Block) × (stored blocks k ≡ Some x)) n c.loop-number.invariant (b.0, here)
