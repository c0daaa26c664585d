use Rattle.std.proofs.Common.{◌≡◌, Result, Ok, ap, subst, sym}
use Rattle.std.proofs.lemmas.Result.{err_from_is_err_and}
use Rattle.std.specs.Prelude.{IfOk, None}
use Rattle.vcd_read.specs.Header.{◌>>=◌}
use Rattle.vme_stream.specs.Answers.{AnswerGives, or_too_long}
use Rattle.vme_stream.specs.declared.refusal.Refusal.{Refusal}
use Rattle.vme_trace.specs.Trace.{Trace}
use Rattle.vme_trace.specs.WellFormed.{malformed_step}
use Rattle.vme_text_commands.specs.ExplainedDumps.{GivesAccount}
use Rattle.vme_text_commands.proofs.ExplainLemmas.{GivesAccount-unread}
use Rattle.vme_text_commands.proofs.explain.account_of.Goals as goal

pub returns : goal.returns
returns c = λ read gives formed.
    let is : read ≡ Ok c.in_ok-visitor.visitor =
    subst (λ (r : Result Trace Refusal). AnswerGives (λ (t : Trace). t) r read) c.in_ok-visitor.was gives in
    let ok : malformed_step c.in_ok-visitor.visitor ≡ None =
    subst (λ (r : Result Trace Refusal). IfOk r (λ t. malformed_step t ≡ None)) c.in_ok-visitor.was formed in
    subst (GivesAccount c.account_in.result) (sym (ap (λ (r : Result Trace Refusal). r >>= or_too_long) is))
    (c.account_in.ensures ok)

pub returns-in_err-visitor : goal.returns-in_err-visitor
returns-in_err-visitor c =
    let p = err_from_is_err_and c.from_residual.result c.from_residual.ensures.1 in
    rw (p.1, p.2)
    (λ read gives formed. GivesAccount-unread c.in_err-visitor.field-0.0 read
    (subst (λ (r : Result Trace Refusal). AnswerGives (λ (t : Trace). t) r read) c.in_err-visitor.was gives))
