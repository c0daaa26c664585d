use Rattle.std.proofs.Common.{◌≡◌, ◌∙◌, Result, Ok, ap, subst, sym}
use Rattle.std.proofs.lemmas.Result.{err_from_is_err_and}
use Rattle.std.specs.Prelude.{IfOk, None}
use Rattle.vcd_read.specs.Header.{◌>>=◌}
use Rattle.vme_stream.specs.Answers.{AnswerGives, or_too_long}
use Rattle.vme_stream.specs.declared.refusal.Refusal.{Refusal}
use Rattle.vme_skew.specs.Settled.{settled_or}
use Rattle.vme_trace.specs.Trace.{Trace}
use Rattle.vme_trace.specs.WellFormed.{malformed_step}
use Rattle.vme_text_commands.specs.ExplainedDumps.{GivesAccount}
use Rattle.vme_text_commands.proofs.ExplainLemmas.{GivesAccount-unsettled, settled_or-short}
use Rattle.vme_text_commands.proofs.explain.account_by_skew.Goals as goal

pub returns : goal.returns
returns g c = λ read gives formed.
    let is : read ≡ Ok c.in_ok-settling.settling =
    subst (λ (r : Result Trace Refusal). AnswerGives (λ (t : Trace). t) r read) c.in_ok-settling.was gives in
    let ok : malformed_step c.in_ok-settling.settling ≡ None =
    subst (λ (r : Result Trace Refusal). IfOk r (λ t. malformed_step t ≡ None)) c.in_ok-settling.was formed in
    let skew = g.K.GhostSkew.skew in
    subst (GivesAccount c.account_of.result)
    (settled_or-short skew c.in_ok-settling.settling
    ∙ sym (ap (λ (r : Result Trace Refusal). settled_or skew (r >>= or_too_long)) is))
    (c.account_of.ensures _ (c.settled_visitor.ensures.gives ok) (c.settled_visitor.ensures.formed ok))

pub returns-in_err-settling : goal.returns-in_err-settling
returns-in_err-settling g c =
    let p = err_from_is_err_and c.from_residual.result c.from_residual.ensures.1 in
    rw (p.1, p.2)
    (λ read gives formed. GivesAccount-unsettled g.K.GhostSkew.skew c.in_err-settling.field-0.0 read
    (subst (λ (r : Result Trace Refusal). AnswerGives (λ (t : Trace). t) r read) c.in_err-settling.was gives))
