-- The loop over changed nets: the values of those so far were moved, at most one for each, and no room was added.
use Rattle.std.proofs.Common.{◌≡◌, ◌≤◌, vec_len, vec_capacity}
use Rattle.vcd_read.proofs.ChangedNetLemmas.{IsMoved}
use Rattle.vcd_read.proofs.instant_collector.move_values.Given as goal

abbrev pub invariant-loop-net : goal.invariant-loop-net
invariant-loop-net l = record {
  moved : IsMoved l.changed_nets l.net-index l.fn.current.items l.current.items l.values.items;
  count : vec_len l.values ≤ l.net-index;
  capacity : vec_capacity l.values ≡ vec_capacity l.fn.values;
}
