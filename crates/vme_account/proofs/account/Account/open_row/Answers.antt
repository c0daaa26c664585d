use Rattle.std.proofs.Common.{◌∙◌}
use Rattle.vme_account.proofs.account.Account.open_row.Goals as goal

pub returns : goal.returns
returns c = λ t is. c.of.ensures ∙ is.unended c.args.part
