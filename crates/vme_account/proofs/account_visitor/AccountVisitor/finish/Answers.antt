use Rattle.std.proofs.Common.{◌≡◌, ◌≤◌, ◌<◌, arith, length, refl, subst}
use Rattle.std.specs.Prelude.{None, IfOk, IfSome}
use Rattle.vme_trace.specs.Trace.{Trace}
use Rattle.vme_trace.specs.WellFormed.{capture_limit, malformed_step}
use Rattle.vme_account.specs.Accounts.{IsAccountOf, KeepsAccount}
use Rattle.vme_account.proofs.VisitorLemmas.{IfOk-constant}
use Rattle.vme_account.proofs.account_visitor.AccountVisitor.finish.Goals as goal

pub returns-in-Some-clause-account : goal.returns-in-Some-clause-account
returns-in-Some-clause-account c =
    let i = c.self.inside in
    let t : Trace = record { opening = i.opening; steps = i.taken.items } in
    let keeps : IfSome i.running (λ b. KeepsAccount i.opening i.taken.items b.value) =
    c.self.invariant.kept c.if-count-gt-MOST_TAKEN.false in
    subst
    (λ (t : Trace). malformed_step t ≡ None → IfOk c.account_at_end.result (λ account. IsAccountOf account t))
    c.self.view_is
    (λ ok. c.account_at_end.ensures.account t (rw c.in-Some.is at keeps) refl ok)

pub returns-in-Some-clause-short : goal.returns-in-Some-clause-short
returns-in-Some-clause-short c =
    subst (λ (t : Trace). IfOk c.account_at_end.result (λ account. length t.steps ≤ 67108864)) c.self.view_is
    (IfOk-constant (omega (arith, c.self.invariant.counted, c.if-count-gt-MOST_TAKEN.false)) c.account_at_end.result)

pub returns-then-count-gt-MOST_STEPS-clause-too_many_steps : goal.returns-then-count-gt-MOST_STEPS-clause-too_many_steps
returns-then-count-gt-MOST_STEPS-clause-too_many_steps c = λ is.
    subst (λ (t : Trace). capture_limit < length t.steps) c.self.view_is
    (omega (arith, c.self.invariant.counted, c.if-count-gt-MOST_STEPS.true))

pub returns-then-count-gt-MOST_TAKEN-clause-too_many_blocks
    : goal.returns-then-count-gt-MOST_TAKEN-clause-too_many_blocks
returns-then-count-gt-MOST_TAKEN-clause-too_many_blocks c = λ is.
    subst (λ (t : Trace). (67108864 < length t.steps) × (length t.steps ≤ capture_limit)) c.self.view_is (
      omega (arith, c.self.invariant.counted, c.if-count-gt-MOST_TAKEN.true),
      omega (arith, c.self.invariant.counted, c.if-count-gt-MOST_STEPS.false),
    )
