use Rattle.std.proofs.Common.{arith}
use Rattle.vme_pod_check.proofs.DeliveryLemmas.{AreDeliveries-shuffled, AreDeliveries-refl}
use Rattle.vme_pod_check.proofs.deliveries.deliveries_of.Goals as goal

pub returns-in_default-clause-delivered : goal.returns-in_default-clause-delivered
returns-in_default-clause-delivered c = AreDeliveries-refl _ c.requires

pub returns-clause-delivered : goal.returns-clause-delivered
returns-clause-delivered c =
    AreDeliveries-shuffled _ c.as_mut_slice.result.now c.in_ok-deliveries.deliveries.items c.shuffle.new.blocks
    c.in_ok-deliveries.deliveries.len
    (omega (arith, c.in_ok-deliveries.deliveries.ok.0)) c.as_mut_slice.ensures.value c.shuffle.ensures
    c.in_ok-deliveries.ensures
