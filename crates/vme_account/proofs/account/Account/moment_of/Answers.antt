use Rattle.std.proofs.Common.{◌≡◌, ◌∙◌, ap, subst, sym, true, ℕ}
use Rattle.std.specs.Prelude.{IfSome, Option, is_some}
use Rattle.vme_trace.specs.declared.verdict.Break.{Break}
use Rattle.vme_account.specs.LastEvents.{moment}
use Rattle.vme_account.specs.RelatedEvents.{instant_of}
use Rattle.vme_account.specs.declared.running_account.RunningAccount.{RunningAccount}
use Rattle.vme_account.proofs.account.Account.moment_of.Goals as goal

pub returns : goal.returns
returns c = λ t found is found_is kept.
    let e = c.args.self.now.running.value.judged.notes.events in
    let (here, has) = subst
    (λ (f : Option Break). IfSome f (λ b. (b.instant ≡ e.seen) × (is_some e.before ≡ true))) found_is is.broken in
    c.moment_of.ensures t (rw c.deref.ensures is.events) (rw c.deref.ensures has) kept
    ∙ (ap (λ (r : RunningAccount). moment t
    (instant_of t c.args.other.now r.judged.notes.events.start r.judged.notes.events.seen)) c.deref.ensures
    ∙ ap (λ (j : ℕ). moment t (instant_of t c.args.other.now e.start j)) (sym here))
