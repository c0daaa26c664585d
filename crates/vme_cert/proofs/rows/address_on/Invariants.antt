-- The loop over address lines: the address is that on the lines so far, none of which is above the highest one that is
-- needed.
use Rattle.std.proofs.Common.{◌≡◌, ◌≤◌}
use Rattle.vme_cert.specs.Vocabulary.{address_to}
use Rattle.vme_cert.proofs.rows.address_on.Given as goal

abbrev pub invariant-loop-bit : goal.invariant-loop-bit
invariant-loop-bit l = record { so_far : l.address ≡ address_to l.lines l.bit; within : l.bit ≤ l.needs.highest }
