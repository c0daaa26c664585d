-- The highest address line that a modifier code makes meaningful.
use Rattle.std.proofs.Common.{ℕ, ◌≤◌, Bool, true, false, arith}
use Rattle.std.specs.Prelude.{if◌then◌else◌}
use Rattle.vme_trace.specs.Cycle.{highest_address, is_extended, is_short, is_standard}

-- it is at most A31
pub highest_address-bound : (code : ℕ) → highest_address code ≤ 31
unfolding highest_address
highest_address-bound code = by_tests (is_extended code) (is_standard code) (is_short code)
  where
    by_tests : (a b c : Bool) → (if a then 31 else if b then 23 else if c then 15 else 0) ≤ 31
    by_tests true b c = omega arith
    by_tests false true c = omega arith
    by_tests false false true = omega arith
    by_tests false false false = omega arith
