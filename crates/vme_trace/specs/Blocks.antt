-- A recording cut into numbered blocks.
use Rattle.std.specs.Prelude.{ℕ, ◌*◌, List, map, flat_map, take, drop, length, max}
use Rattle.std.specs.Int.{div_ceil}
use Rattle.std.specs.List.{range_with_len}
use Rattle.vme_trace.specs.Trace.{Trace, levels_at}
use Rattle.vme_trace.specs.declared.block.Block.{Block}
use Rattle.vme_trace.specs.declared.step.Step.{Step}

-- how many blocks of `size` steps a recording fills: at least one, and the last with fewer steps if need be
abbrev pub block_count : ℕ → Trace → ℕ
block_count size t = max 1 (div_ceil (length t.steps) size)

-- block `k`: the steps after the first `k * size`, and the levels that those leave
abbrev pub block_at : ℕ → Trace → ℕ → Block
block_at size t k = record { number = k; opening = levels_at t (k * size); steps = take size (drop (k * size) t.steps) }

-- all blocks, numbered from 0
abbrev pub blocks_of : ℕ → Trace → List Block
blocks_of size t = map (block_at size t) (range_with_len 0 (block_count size t))

-- the steps of `blocks`, one block after the other
abbrev pub joined_steps : List Block → List Step
joined_steps blocks = flat_map (λ b. b.steps) blocks
