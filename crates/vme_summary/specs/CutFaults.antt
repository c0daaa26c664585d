-- Which cuts of a recording are refused: a block has 1 to 65,536 steps, and there are at most 4,096 blocks.
use Rattle.std.specs.Prelude.{◌≡◌, ℕ, ◌<◌, ◌≤◌, ◌⊎◌}
use Rattle.vme_trace.specs.Blocks.{block_count}
use Rattle.vme_trace.specs.Trace.{Trace}

-- no recording is cut into blocks of `size` steps
abbrev pub IsBadSize : ℕ → Type 0
IsBadSize size = (size ≡ 0) ⊎ (65536 < size)

-- the recording, cut into blocks of `size` steps, has more than 4,096 blocks
abbrev pub HasTooManyBlocks : ℕ → Trace → Type 0
HasTooManyBlocks size t = (0 < size) × (size ≤ 65536) × (4096 < block_count size t)
