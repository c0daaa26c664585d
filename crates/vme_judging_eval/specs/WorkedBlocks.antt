-- Worked blocks of a backplane of three slots, on which one line after the other gets high.
use Rattle.std.specs.Prelude.{ℕ, [], ◌∷◌}
use Rattle.vme_trace.specs.LineNumbers.{AS, DS0, DS1}
use Rattle.vme_trace.specs.Levels.{Levels}
use Rattle.vme_trace.specs.Trace.{changed}
use Rattle.vme_trace.specs.declared.block.Block.{Block}
use Rattle.vme_summary.specs.Joins.{block_of, left_by}
use Rattle.vme_eval.specs.Steps.{at, high, unknown_lines}

-- the first block: steps at the times 0 and 10
abbrev pub first : Block
first = block_of 0 unknown_lines (at 0 (high AS ∷ []) ∷ at 10 (high DS0 ∷ []) ∷ [])

-- the levels after the first block
abbrev pub left : Levels
left = left_by first

-- a block after the first one, with a step at `time`
abbrev pub next : ℕ → Block
next time = block_of 1 left (at time (high DS1 ∷ []) ∷ [])

-- a block without steps after the first one
abbrev pub empty : Block
empty = block_of 1 left []

-- a block after the empty one, with a step at `time`
abbrev pub after_empty : ℕ → Block
after_empty time = block_of 2 left (at time (high DS1 ∷ []) ∷ [])

-- a block after the first one, with the same levels and a step at time 20, on a backplane of `slots` slots
abbrev pub on_slots : ℕ → Block
on_slots slots = block_of 1 (record left { slots = slots }) (at 20 (high DS1 ∷ []) ∷ [])

-- a block that opens with other levels: a strobe isn't high
abbrev pub on_other_lines : Block
on_other_lines = block_of 1 (changed unknown_lines (high AS ∷ [])) (at 20 (high DS1 ∷ []) ∷ [])
