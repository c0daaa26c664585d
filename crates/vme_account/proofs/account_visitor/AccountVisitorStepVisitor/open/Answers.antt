use Rattle.std.proofs.Common.{List, subst, sym}
use Rattle.vme_trace.specs.declared.step.Step.{Step}
use Rattle.vme_account.specs.Accounts.{IsRunning}
use Rattle.vme_account.proofs.VisitorLemmas.{IsRunning-first}
use Rattle.vme_account.proofs.account_visitor.AccountVisitorStepVisitor.open.Goals as goal

pub invariant_of-self : goal.invariant_of-self
invariant_of-self c =
    subst (λ (x : List Step). IsRunning c.args.opening.now x c.boxed.result 0) (sym c.new-self-inside.ensures)
    (IsRunning-first c.args.opening.now c.boxed.result c.boxed.ensures)
