-- The value that each net got so far at the current time, if it got one.
use Rattle.std.proofs.Common.{List, Option}
use Rattle.vcd_read.specs.declared.dump.Bit.{Bit}

-- for each net its value, or none
abbrev pub CurrentValues : Type 0
CurrentValues = List (Option (List Bit))
