-- The loop over places: the bytes so far are common, and the common prefix is these and that of the bytes that are
-- left.
use Rattle.std.proofs.Common.{◌≡◌, ◌+◌, drop}
use Rattle.vme_faults.specs.Nearness.{common_prefix}
use Rattle.vme_faults.proofs.nearness.common_prefix.Given as goal

abbrev pub invariant-loop-at : goal.invariant-loop-at
invariant-loop-at l = common_prefix l.one l.other ≡ l.at + common_prefix (drop l.at l.one) (drop l.at l.other)
