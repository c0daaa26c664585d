use Rattle.std.proofs.Common.{◌∙◌, ap, subst, sym}
use Rattle.std.specs.Prelude.{Ok, Result}
use Rattle.std.proofs.lemmas.Result.{err_from_is_err_and}
use Rattle.vme_account.specs.declared.account.Account.{Account}
use Rattle.vme_stream.specs.declared.refusal.Refusal.{Refusal}
use Rattle.vme_trace.specs.declared.verdict.Verdict.{Verdict}
use Rattle.vme_text_commands.specs.ExplainedDumps.{GivesAccount}
use Rattle.vme_text_commands.proofs.ExplainLemmas.{AnswerGives-by_account, AnswerGives-explained}
use Rattle.vme_text_commands.proofs.explain.explained_account.Goals as goal

pub returns-in_err-account-clause-read : goal.returns-in_err-account-clause-read
returns-in_err-account-clause-read c =
    let p = err_from_is_err_and c.from_residual.result c.from_residual.ensures.1 in
    rw (p.1, p.2)
    (λ captured given. AnswerGives-explained c.in_err-account.field-0.0 _
    (subst (λ (a : Result Account Refusal). GivesAccount a captured) c.in_err-account.was given))

pub returns-in_err-account-clause-begins : goal.returns-in_err-account-clause-begins
returns-in_err-account-clause-begins c =
    let p = err_from_is_err_and c.from_residual.result c.from_residual.ensures.1 in
    rw p.1 tt

pub returns-in-Ok-clause-read : goal.returns-in-Ok-clause-read
returns-in-Ok-clause-read c = λ captured given.
    AnswerGives-by_account (Ok c.in-Ok.told) c.in_ok-account.account captured
    (subst (λ (a : Result Account Refusal). GivesAccount a captured) c.in_ok-account.was given)
    (λ t is.
    let same = sym (c.in-Ok.ensures.verdict ∙ c.verdict.ensures t is) in
    ap (λ (v : Verdict). let made : Result Verdict Refusal = Ok v in made) same)
