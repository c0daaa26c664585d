-- The loop over the numbers: each one so far has a block.
use Rattle.std.proofs.Common.{◌≡◌, ℕ, ◌<◌, Some}
use Rattle.vme_trace.specs.declared.block.Block.{Block}
use Rattle.vme_book.specs.Inserted.{stored}
use Rattle.vme_book.proofs.places.BookSlots.missing.Given as goal

abbrev pub invariant-loop-number : goal.invariant-loop-number
invariant-loop-number l = (k : ℕ) → k < l.number → (b : Block) × (stored l.self.blocks.items k ≡ Some b)
