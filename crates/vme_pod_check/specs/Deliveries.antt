-- Deliveries of the blocks of a recording.
use Rattle.std.specs.Prelude.{◌≡◌, ◌*◌, ◌≤◌, List, All, Contains, Some, length, slice_get}
use Rattle.vme_trace.specs.declared.block.Block.{Block}

-- each delivery is the block of its number
abbrev pub AreTakenFrom : List Block → List Block → Type 0
AreTakenFrom blocks deliveries = All (λ b. slice_get blocks b.number ≡ Some b) deliveries

-- each delivery is one of the blocks, each block is delivered, and there are at most twice as many deliveries as blocks
pub record AreDeliveries (blocks deliveries : List Block) : Type 0 where
  pub of : AreTakenFrom blocks deliveries
  pub all : All (λ b. Contains deliveries b) blocks
  pub count : length deliveries ≤ 2 * length blocks
