-- The loop over places from the end: the bytes so far are common, and the common suffix is these and that of the bytes
-- that are left.
use Rattle.std.proofs.Common.{◌≡◌, ◌+◌, drop, reverse}
use Rattle.vme_faults.specs.Nearness.{common_suffix, common_prefix}
use Rattle.vme_faults.proofs.nearness.common_suffix.Given as goal

abbrev pub invariant-loop-at : goal.invariant-loop-at
invariant-loop-at l =
    common_suffix l.one l.other ≡ l.at + common_prefix (drop l.at (reverse l.one)) (drop l.at (reverse l.other))
