use Rattle.vme_confirm_command.proofs.UnsettledLemmas.{compared_settled-0}
use Rattle.vme_confirm_command.proofs.confirm.unsettled_comparison.Goals as goal

pub returns : goal.returns
returns c = compared_settled-0
