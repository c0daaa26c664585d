use Rattle.vme_judging_eval.proofs.ResetsAgree.{resets_agree}
use Rattle.vme_judging_eval.proofs.resets.Goals as goal

pub returns : goal.returns
returns c = resets_agree
