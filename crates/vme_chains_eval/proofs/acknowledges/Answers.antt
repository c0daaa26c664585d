use Rattle.vme_chains_eval.proofs.AcknowledgesAgree.{acknowledges_agree}
use Rattle.vme_chains_eval.proofs.acknowledges.Goals as goal

pub returns : goal.returns
returns c = acknowledges_agree
