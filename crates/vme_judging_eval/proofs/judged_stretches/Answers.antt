use Rattle.std.proofs.Common.{refl}
use Rattle.vme_eval.specs.Resets.{reset_after_a_lost_strobe, two_resets}
use Rattle.vme_eval.proofs.Everything.{everything}
use Rattle.vme_judging_eval.proofs.judged_stretches.Goals as goal

pub returns : goal.returns
unfolding everything two_resets reset_after_a_lost_strobe
returns c = record { after_resets = refl; after_a_loss = refl }
