use Rattle.std.proofs.Common.{◌∙◌, ap, cond, sym}
use Rattle.vme_monitor.specs.OverStretches.{has_started}
use Rattle.vme_trace.specs.declared.verdict.Verdict.TheVariants.{Conforming, NeverIdle}
use Rattle.vme_account.specs.declared.running_account.RunningAccount.{RunningAccount}
use Rattle.vme_account.proofs.AccountLemmas.{verdict-named, verdict-unnamed}
use Rattle.vme_account.proofs.account.Account.verdict.Goals as goal

pub returns-in-Some : goal.returns-in-Some
returns-in-Some c = λ t is.
    let named = ap (λ (r : RunningAccount). r.judged.notes.found) (sym c.deref.ensures) ∙ c.in-Some.is in
    c.verdict_of.ensures ∙ sym (verdict-named t c.in-Some.found (sym is.found ∙ named))

pub returns-in-None : goal.returns-in-None
returns-in-None c = λ t is.
    let none = ap (λ (r : RunningAccount). r.judged.notes.found) (sym c.deref.ensures) ∙ c.in-None.is in
    c.unbroken_verdict.ensures
    ∙ (ap (λ b. cond b Conforming NeverIdle)
    (c.have_started.ensures
    ∙ (ap (λ (r : RunningAccount). has_started r.judged.memories.known) c.deref-in-None.ensures ∙ is.started none))
    ∙ sym (verdict-unnamed t (sym is.found ∙ none)))
