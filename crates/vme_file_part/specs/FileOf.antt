-- A dump's recording as a file of a recording, with a number.
use Rattle.std.specs.Prelude.{ℕ, Option}
use Rattle.vme_trace.specs.Trace.{Trace}
use Rattle.vme_trace.specs.declared.block.Block.{Block}
use Rattle.vme_summary.specs.Joins.{block_of}
use Rattle.vme_parts.specs.Opened.{opening_of, steps_of}

-- the file `number`, from the recording t of a dump with the first time `first_time`, if it has one; except for number
-- 0, the levels after that time are the opening of the file, and its steps are those after that time
abbrev pub file_of : ℕ → Option ℕ → Trace → Block
file_of number first_time t =
    block_of number (opening_of number first_time t.opening t.steps) (steps_of number first_time t.steps)
