use Rattle.std.proofs.Common.{◌∙◌, refl, sym, take}
use Rattle.vme_bind.specs.TextPieces.{text_reached}
use Rattle.vme_bind.proofs.DumpReaderLemmas.{recording_of_text-begun, recording_of_text-front_fails}
use Rattle.vme_bind.proofs.DumpReaderLemmas.{outcome_ahead-piece_fails, outcome_ahead-piece}
use Rattle.vme_bind.proofs.dump_reader.DumpReader.take.Goals as goal

pub returns-in-Ok-Ok-clause-taken : goal.returns-in-Ok-Ok-clause-taken
returns-in-Ok-Ok-clause-taken g c =
    let b = c.in-Definitions.bound.now in
    let front = take c.whole_tokens-count.result c.args.bytes.now in
    let text = c.in-Ok-Ok.text in
    let begins = rw c.in-Ok-Ok.field-0-is at c.in-Ok-Ok.ensures.begins in
    let line = rw c.in-Ok-Ok.field-0-is at c.in-Ok-Ok.ensures.line in
    rw c.in-Definitions.is
    (λ rest. recording_of_text-begun (text_reached text) b front (text_reached text).body.line line
    c.whole_tokens-count.ensures.apart
    begins rest)

pub returns-in-Ok-Err-clause-taken : goal.returns-in-Ok-Err-clause-taken
returns-in-Ok-Err-clause-taken g c = rw c.in-Definitions.is (λ rest. sym (c.new.ensures rest))

pub returns-in_ok-failed-in-Err-clause-taken : goal.returns-in_ok-failed-in-Err-clause-taken
returns-in_ok-failed-in-Err-clause-taken g c =
    let b = c.in-Definitions.bound.now in
    let front = take c.whole_tokens-count.result c.args.bytes.now in
    rw c.in-Definitions.is
    (λ rest. recording_of_text-front_fails b front c.in-Err.fault c.whole_tokens-count.ensures.apart
    c.in_ok-failed-in-Err.ensures.not_want c.in-Err.ensures.begins rest
    ∙ sym (c.in_ok-failed-in-Err.ensures.ahead rest))

pub returns-in-Ok-clause-taken : goal.returns-in-Ok-clause-taken
returns-in-Ok-clause-taken g c =
    let text = c.in-Body.text in
    let next = c.in-Ok.text in
    let piece = take c.whole_tokens-count.result c.args.bytes.now in
    rw c.in-Body.is
    (λ rest.
    outcome_ahead-piece (text_reached text) (text_reached next) piece (text_reached text).body.line
    (text_reached next).body.line
    c.in-Ok.ensures.line c.whole_tokens-count.ensures.apart c.in-Ok.ensures.rest rest)

pub returns-in_ok-failed-in-Err-read-clause-taken : goal.returns-in_ok-failed-in-Err-read-clause-taken
returns-in_ok-failed-in-Err-read-clause-taken g c =
    let text = c.in-Body.text in
    let piece = take c.whole_tokens-count.result c.args.bytes.now in
    rw c.in-Body.is
    (λ rest.
    outcome_ahead-piece_fails (text_reached text) piece (text_reached text).body.line c.in-Err-read.fault
    c.whole_tokens-count.ensures.apart c.in_ok-failed-in-Err-read.ensures.not_want c.in-Err-read.ensures.rest rest
    ∙ sym (c.in_ok-failed-in-Err-read.ensures.ahead rest))

pub returns-in-Failed-clause-taken : goal.returns-in-Failed-clause-taken
returns-in-Failed-clause-taken g c = rw c.in-Failed.is (λ rest. refl)
