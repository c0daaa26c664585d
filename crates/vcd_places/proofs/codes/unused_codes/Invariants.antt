-- The loop over numbers: the codes so far are unused, and their numbers ascend and are below the current one, which
-- isn't 0.
use Rattle.std.proofs.Common.{ℕ, ◌-◌, ◌<◌, length, map}
use Rattle.std.specs.Prelude.{All}
use Rattle.std.specs.List.Sorted.{IsStrictlyIncreasing}
use Rattle.vcd_read.specs.CodeNumbers.{code_number}
use Rattle.vcd_places.specs.Codes.{IsUnused, vec_code_number}
use Rattle.vcd_places.proofs.codes.unused_codes.Given as goal

abbrev pub invariant-loop-marks : goal.invariant-loop-marks
invariant-loop-marks l = record {
  each : All (λ code. IsUnused l.text (code_number code.items) code.items) l.found.items;
  ascend : IsStrictlyIncreasing (map vec_code_number l.found.items);
  below : All (λ (n : ℕ). n < l.number) (map vec_code_number l.found.items);
  some : 0 < l.number;
}

abbrev pub decreases-loop-marks : goal.decreases-loop-marks
decreases-loop-marks l = length l.marks.items - l.number
