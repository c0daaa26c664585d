-- The loop over layers: the count is the number of marks of the layers so far, at most 2^64 - 1.
use Rattle.std.proofs.Common.{◌≡◌, ◌-◌, ◌^◌, take}
use Rattle.std.specs.Prelude.{min}
use Rattle.std.specs.List.{sum_by}
use Rattle.vme_monitor.specs.Meeting.{layer_marks}
use Rattle.vme_monitor.specs.Walk.{link_values}
use Rattle.vme_monitor.proofs.table.Table.stored.Given as goal

abbrev pub invariant-loop-layer : goal.invariant-loop-layer
invariant-loop-layer g l = l.count ≡ min (sum_by layer_marks (link_values (take l.layer-index l.self.layers.items)))
    (2 ^ 64 - 1)
