use Rattle.vme_account.proofs.MarkedLemmas.{open_in-marked}
use Rattle.vme_account.proofs.marked.Marked.unended.Goals as goal

pub returns-clause-listed : goal.returns-clause-listed
returns-clause-listed c = λ ms p is. open_in-marked c.args.self.now ms p is
