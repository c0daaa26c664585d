use Rattle.vme_transfers_eval.proofs.CyclesAgree.{cycles_agree}
use Rattle.vme_transfers_eval.proofs.cycles.Goals as goal

pub returns : goal.returns
returns c = cycles_agree
