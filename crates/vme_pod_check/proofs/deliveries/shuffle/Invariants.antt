use Rattle.std.specs.Prelude.{IsPermutation}
use Rattle.vme_pod_check.proofs.deliveries.shuffle.Given as goal

abbrev pub invariant-loop-i : goal.invariant-loop-i
invariant-loop-i l = IsPermutation l.fn.blocks l.blocks
