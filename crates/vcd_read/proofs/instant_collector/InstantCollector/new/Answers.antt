use Rattle.vcd_read.proofs.ChangedNetLemmas.{ListsChangedNets-none}
use Rattle.vcd_read.proofs.instant_collector.InstantCollector.new.Goals as goal

pub invariant_of-result : goal.invariant_of-result
invariant_of-result c = rw (c.new-2.ensures.items, c.loop.invariant) (ListsChangedNets-none c.loop.counter)
