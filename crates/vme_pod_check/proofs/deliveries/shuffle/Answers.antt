use Rattle.std.proofs.lemmas.List.Sorted.{IsPermutation-trans}
use Rattle.vme_pod_check.proofs.deliveries.shuffle.Goals as goal

pub loop-i-preserved : goal.loop-i-preserved
loop-i-preserved c = IsPermutation-trans _ _ _ c.loop-i.invariant c.swap.ensures.permutation
