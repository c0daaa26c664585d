-- The loop over the bytes of the value: each round passes at least one.
use Rattle.std.proofs.Common.{length, ◌-◌}
use Rattle.vme_audit_command.proofs.junit.push_quoted.Given as goal

abbrev pub decreases-loop-at : goal.decreases-loop-at
decreases-loop-at l = length l.value - l.at
