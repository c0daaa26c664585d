use Rattle.std.proofs.Common.{◌≡◌, List, ◌++◌, ◌+◌, ◌≤◌, length}
use Rattle.vme_trace.specs.declared.block.Block.{Block}
use Rattle.vme_pod_check.specs.Deliveries.{AreTakenFrom}
use Rattle.vme_pod_check.proofs.deliveries.some_again.Given as goal

abbrev pub invariant-loop-i : goal.invariant-loop-i
invariant-loop-i l = record {
  of : AreTakenFrom l.fn.blocks.items l.deliveries.items;
  front : (again : List Block) × (l.deliveries.items ≡ l.fn.blocks.items ++ again);
  count : length l.deliveries.items ≤ length l.fn.blocks.items + l.i;
}
