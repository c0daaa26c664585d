use Rattle.std.proofs.Common.{arith}
use Rattle.vme_pod_check.proofs.DeliveryLemmas.{AreDeliveries-append}
use Rattle.vme_pod_check.proofs.deliveries.some_again.Goals as goal

pub returns : goal.returns
returns c = AreDeliveries-append _ _ c.loop-i.invariant.front.0 c.loop-i.invariant.front.1 c.loop-i.invariant.of
    (omega arith)
