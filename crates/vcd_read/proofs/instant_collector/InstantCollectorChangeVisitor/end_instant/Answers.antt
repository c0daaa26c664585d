use Rattle.std.proofs.Common.{ℕ}
use Rattle.std.proofs.lemmas.List.Sorted.{IsNonDecreasingBy-from_sort}
use Rattle.vcd_read.proofs.ChangedNetLemmas.{ListsChangedNets-permutation}
use Rattle.vcd_read.proofs.instant_collector.InstantCollectorChangeVisitor.end_instant.Goals as goal

pub move_values-requires-clause-changed_nets : goal.move_values-requires-clause-changed_nets
move_values-requires-clause-changed_nets c =
    rw c.deref.ensures.value (ListsChangedNets-permutation c.self.inside.changed_nets.items
    c.sort_unstable.new.self.items
    c.self.inside.current.items c.sort_unstable.ensures.permutation c.self.invariant)

pub move_values-requires-clause-sorted : goal.move_values-requires-clause-sorted
move_values-requires-clause-sorted c =
    rw c.deref.ensures.value (IsNonDecreasingBy-from_sort (λ (x : ℕ). x) c.sort_unstable.new.self.items
    c.sort_unstable.ensures.sorted)
