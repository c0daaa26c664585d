use Rattle.vme_account.proofs.VisitorLemmas.{IsRunning-first}
use Rattle.vme_account.proofs.account_visitor.AccountVisitor.new.Goals as goal

pub invariant_of-result : goal.invariant_of-result
invariant_of-result c = rw c.new.ensures (IsRunning-first c.args.opening.now c.boxed.result c.boxed.ensures)
