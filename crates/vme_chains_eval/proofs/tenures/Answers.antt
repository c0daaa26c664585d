use Rattle.vme_chains_eval.proofs.TenuresAgree.{tenures_agree}
use Rattle.vme_chains_eval.proofs.tenures.Goals as goal

pub returns : goal.returns
returns c = tenures_agree
