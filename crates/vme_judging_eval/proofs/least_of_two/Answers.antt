use Rattle.std.proofs.Common.{refl}
use Rattle.vme_eval.specs.Grants.{two_levels_granted_at_once}
use Rattle.vme_eval.proofs.Everything.{everything}
use Rattle.vme_judging_eval.proofs.least_of_two.Goals as goal

pub returns : goal.returns
unfolding everything two_levels_granted_at_once
returns c = record { level = refl; step = refl }
