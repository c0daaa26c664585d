-- What a visitor that keeps all changes makes of them: the instants.
use Rattle.std.specs.Prelude.{ℕ, List, [], ◌∷◌, ◌++◌, length, replicate, slice_set, Option, Some, None}
use Rattle.vcd_read.specs.declared.dump.Bit.{Bit}
use Rattle.vcd_read.specs.declared.dump.Instant.{Instant}
use Rattle.vcd_read.specs.DumpProgress.{values_from}

-- The instants before the current one, and the last value of each net at the current one, if it has one.
pub record Collected : Type 0 where
  pub done : List Instant
  pub current : List (Option (List Bit))

-- one more change at the current instant
abbrev pub collected_change : Collected → ℕ → List Bit → Collected
collected_change c net bits = record c { current = slice_set c.current net (Some bits) }

-- the end of the current instant, which is at `time`
abbrev pub collected_instant : Collected → ℕ → Collected
collected_instant c time =
    record {
      done = c.done ++ record { time = time; values = values_from 0 c.current }
          ∷ [];
      current = replicate (length c.current) None;
    }
