use Rattle.std.proofs.Common.{ap, ◌∙◌}
use Rattle.vme_account.proofs.MarkedLemmas.{count_in-marked}
use Rattle.vme_account.specs.RowCounts.{count_in}
use Rattle.vme_account.proofs.marked.Marked.counts.Goals as goal

pub returns-clause-listed : goal.returns-clause-listed
returns-clause-listed c = λ ms k is counted.
    ap (λ x. count_in x k) c.in_ok-leave.ensures ∙ count_in-marked c.args.self.now ms k is counted
