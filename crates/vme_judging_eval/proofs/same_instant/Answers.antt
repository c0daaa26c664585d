use Rattle.vme_judging_eval.proofs.SameInstantAgree.{same_instant_agree}
use Rattle.vme_judging_eval.proofs.same_instant.Goals as goal

pub returns : goal.returns
returns c = same_instant_agree
