use Rattle.std.proofs.Common.{◌∙◌, sym, take}
use Rattle.vme_bind.specs.TextPieces.{text_reached}
use Rattle.vme_bind.proofs.DumpReaderLemmas.{outcome_ahead-piece_fails, outcome_ahead-piece}
use Rattle.vme_commands.proofs.judged_dump.take_by_workers.Goals as goal

pub returns-in-Ok-clause-taken : goal.returns-in-Ok-clause-taken
returns-in-Ok-clause-taken g c =
    let text = c.in-Body.text in
    let next = c.in-Ok.text in
    let piece = take c.whole_tokens-count.result c.args.bytes.now in
    rw c.in-Body.is
    (λ rest.
    outcome_ahead-piece (text_reached text) (text_reached next) piece (text_reached text).body.line
    (text_reached next).body.line
    c.in-Ok.ensures.line c.whole_tokens-count.ensures.apart c.in-Ok.ensures.rest rest)

pub returns-in_ok-failed-in-Err-clause-taken : goal.returns-in_ok-failed-in-Err-clause-taken
returns-in_ok-failed-in-Err-clause-taken g c =
    let text = c.in-Body.text in
    let piece = take c.whole_tokens-count.result c.args.bytes.now in
    rw c.in-Body.is
    (λ rest.
    outcome_ahead-piece_fails (text_reached text) piece (text_reached text).body.line c.in-Err.fault
    c.whole_tokens-count.ensures.apart c.in_ok-failed-in-Err.ensures.not_want c.in-Err.ensures.rest rest
    ∙ sym (c.in_ok-failed-in-Err.ensures.ahead rest))
