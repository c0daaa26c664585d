use Rattle.vme_transfers_eval.proofs.TransfersAgree.{transfers_agree}
use Rattle.vme_transfers_eval.proofs.transfers.Goals as goal

pub returns : goal.returns
returns c = transfers_agree
