-- The loop over nets: each so far has no value.
use Rattle.std.proofs.Common.{◌≡◌, replicate, None}
use Rattle.vcd_read.proofs.instant_collector.InstantCollector.new.Given as goal

abbrev pub invariant-loop : goal.invariant-loop
invariant-loop l = l.current.items ≡ replicate l.counter None
