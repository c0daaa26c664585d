use Rattle.std.proofs.Common.{◌∙◌, [], ap, subst, sym}
use Rattle.vme_trace.specs.Trace.{Trace}
use Rattle.vcd_read.specs.Tokens.{tokens_from}
use Rattle.vme_bind.specs.TextPieces.{TextReached}
use Rattle.vme_bind.specs.TextReading.{StopsAs, TextReading, reading_ahead}
use Rattle.vme_step_reader.proofs.PieceSteps.{reading_ahead-end_of_text, StopsAs-piece}
use Rattle.vme_step_reader.proofs.pieces.read_last_piece.Goals as goal

pub returns-in-Ok-finish_or_stop-clause-recorded : goal.returns-in-Ok-finish_or_stop-clause-recorded
returns-in-Ok-finish_or_stop-clause-recorded c given =
    let w = c.args.speculative in
    let piece = c.args.piece.now in
    let end = c.in-Ok-finish_or_stop.taken in
    let none : Trace = record { opening = c.new.result.opening; steps = c.new.result.steps.items } in
    let read : Trace = record { opening = end.opening; steps = end.steps.items } in
    ap (λ (x : TextReading). x.recorded)
    (reading_ahead-end_of_text c.recorded_before_is_a_prefix.ensures w none c.new.ensures.none read _
    (tokens_from w.body.line piece) []
    (ap (λ (t : TextReached). reading_ahead t (tokens_from t.body.line piece) []) (sym c.with_step_visitor-text.ensures)
    ∙ c.in-Ok.ensures.rest [] ∙ c.in-Ok-finish_or_stop.ensures) given)

pub returns-in-Ok-finish_or_stop-clause-whole : goal.returns-in-Ok-finish_or_stop-clause-whole
returns-in-Ok-finish_or_stop-clause-whole c given =
    let w = c.args.speculative in
    let piece = c.args.piece.now in
    let end = c.in-Ok-finish_or_stop.taken in
    let none : Trace = record { opening = c.new.result.opening; steps = c.new.result.steps.items } in
    let read : Trace = record { opening = end.opening; steps = end.steps.items } in
    ap (λ (x : TextReading). x.fault)
    (reading_ahead-end_of_text c.recorded_before_is_a_prefix.ensures w none c.new.ensures.none read _
    (tokens_from w.body.line piece) []
    (ap (λ (t : TextReached). reading_ahead t (tokens_from t.body.line piece) []) (sym c.with_step_visitor-text.ensures)
    ∙ c.in-Ok.ensures.rest [] ∙ c.in-Ok-finish_or_stop.ensures) given)

pub returns-in-Err-clause-stopped : goal.returns-in-Err-clause-stopped
returns-in-Err-clause-stopped c given =
    let w = c.args.speculative in
    let piece = c.args.piece.now in
    let s = c.in-Err.stopped in
    let none : Trace = record { opening = c.new.result.opening; steps = c.new.result.steps.items } in
    let read : Trace = record { opening = s.visitor.opening; steps = s.visitor.steps.items } in
    let before = c.steps_before-in-Err.ensures in
    rw (before.fault, before.time, before.steps)
    (StopsAs-piece c.recorded_before_is_a_prefix.ensures w none c.new.ensures.none s.fault.line s.fault.kind read
    s.time (tokens_from w.body.line piece) given []
    (subst (λ (t : TextReached). StopsAs s.fault.line s.fault.kind read s.time
    (reading_ahead t (tokens_from t.body.line piece) [])) c.with_step_visitor-text.ensures (c.in-Err.ensures.rest [])))
