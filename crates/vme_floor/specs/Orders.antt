-- Blocks in the order of their numbers.
use Rattle.std.specs.Prelude.{ℕ, ◌+◌, ◌<◌, List, length, take}
use Rattle.vme_trace.specs.declared.block.Block.{Block}
use Rattle.vme_summary.specs.Joins.{BlocksJoin}

-- the block at n is the first that doesn't join those before it
pub record IsLeastTornBlock (blocks : List Block) (n : ℕ) : Type 0 where
  pub within : n < length blocks
  pub joins : BlocksJoin (take n blocks)
  pub torn : ¬ BlocksJoin (take (n + 1) blocks)
