use Rattle.std.proofs.Common.{◌∙◌, sym, take}
use Rattle.vme_declarations.specs.SurveyStages.{body_reached}
use Rattle.vme_declarations.proofs.SurveyLemmas.{ReadFails-not_memory, body_ahead-piece_fails, body_ahead-read}
use Rattle.vme_declarations.proofs.survey.DumpSurvey.take.Goals as goal

pub returns-in-Ok-Some-clause-taken : goal.returns-in-Ok-Some-clause-taken
returns-in-Ok-Some-clause-taken c =
    let begun = rw c.in-Ok-Some.field-0-is at c.in-Ok-Some.ensures.begun in
    rw c.in-Definitions.is (λ rest. begun rest ∙ sym (c.at.ensures rest))

pub returns-in-Ok-None-clause-taken : goal.returns-in-Ok-None-clause-taken
returns-in-Ok-None-clause-taken c = rw c.in-Definitions.is (λ rest. sym (c.new.ensures rest))

pub returns-in_ok-failed-in-Err-clause-taken : goal.returns-in_ok-failed-in-Err-clause-taken
returns-in_ok-failed-in-Err-clause-taken c =
    rw c.in-Definitions.is
    (λ rest. ReadFails-not_memory c.in-Err.fault _ c.in_ok-failed-in-Err.ensures.not_want (c.in-Err.ensures.err rest)
    ∙ sym (c.in_ok-failed-in-Err.ensures.ahead rest))

pub returns-in-Ok-clause-taken : goal.returns-in-Ok-clause-taken
returns-in-Ok-clause-taken c =
    let body = c.in-Body.body in
    let next = c.in-Ok.body in
    let piece = take c.whole_tokens-count.result c.args.bytes.now in
    rw c.in-Body.is
    (λ rest.
    body_ahead-read body.front.items next.front.items (body_reached body)
    (body_reached next) piece c.in-Ok.ensures.front
    c.in-Ok.ensures.line c.whole_tokens-count.ensures.apart c.in-Ok.ensures.rest rest ∙ sym (c.at-in-Ok.ensures rest))

pub returns-in_ok-failed-in-Err-read-clause-taken : goal.returns-in_ok-failed-in-Err-read-clause-taken
returns-in_ok-failed-in-Err-read-clause-taken c =
    let body = c.in-Body.body in
    let piece = take c.whole_tokens-count.result c.args.bytes.now in
    rw c.in-Body.is
    (λ rest.
    ReadFails-not_memory c.in-Err-read.fault _ c.in_ok-failed-in-Err-read.ensures.not_want
    (body_ahead-piece_fails body.front.items (body_reached body) piece c.in-Err-read.fault
    c.whole_tokens-count.ensures.apart
    c.in-Err-read.ensures.rest rest)
    ∙ sym (c.in_ok-failed-in-Err-read.ensures.ahead rest))

pub returns-in-Failed-clause-taken : goal.returns-in-Failed-clause-taken
returns-in-Failed-clause-taken c = rw c.in-Failed.is (λ rest. sym (c.at-in-Failed.ensures rest))
