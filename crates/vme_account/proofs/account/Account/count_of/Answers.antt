use Rattle.std.proofs.Common.{◌∙◌}
use Rattle.vme_account.proofs.account.Account.count_of.Goals as goal

pub returns : goal.returns
returns c = λ t is counted. c.of.ensures ∙ is.counts c.args.kind counted
