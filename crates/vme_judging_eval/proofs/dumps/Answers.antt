use Rattle.vme_judging_eval.proofs.DumpsAgree.{dumps_agree}
use Rattle.vme_judging_eval.proofs.dumps.Goals as goal

pub returns : goal.returns
returns c = dumps_agree
