-- The loop over bits of the address modifier: each so far is known.
use Rattle.std.proofs.Common.{◌≡◌, true}
use Rattle.vme_trace.specs.Instants.{every}
use Rattle.vme_trace.specs.Cycle.{is_modifier_bit_known}
use Rattle.vme_trace.proofs.cycle.is_modifier_known.Given as goal

abbrev pub invariant-loop-bit : goal.invariant-loop-bit
invariant-loop-bit l = every (is_modifier_bit_known l.lines) 0 l.bit ≡ true
