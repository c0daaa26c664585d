use Rattle.vme_judging_eval.proofs.LenienciesAgree.{leniencies_agree}
use Rattle.vme_judging_eval.proofs.leniencies.Goals as goal

pub returns : goal.returns
returns c = leniencies_agree
