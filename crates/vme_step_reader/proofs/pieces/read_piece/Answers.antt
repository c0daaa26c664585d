use Rattle.std.proofs.Common.{◌∙◌, [], ap, subst, sym}
use Rattle.vme_trace.specs.Trace.{Trace}
use Rattle.vcd_read.specs.Reading.{line_behind}
use Rattle.vcd_read.specs.Tokens.{tokens_from}
use Rattle.vme_bind.specs.TextPieces.{TextReached}
use Rattle.vme_bind.specs.TextReading.{StopsAs, reading_ahead}
use Rattle.vme_step_reader.proofs.PieceSteps.{reading_ahead-piece, StopsAs-piece}
use Rattle.vme_step_reader.proofs.pieces.read_piece.Goals as goal

pub returns-in-Ok-clause-line : goal.returns-in-Ok-clause-line
returns-in-Ok-clause-line c =
    ap (λ (t : TextReached). t.body.line) c.into_speculative-speculative.ensures
    ∙ c.in-Ok.ensures.line
    ∙ ap (λ (t : TextReached). line_behind t.body.line c.args.piece.now) c.with_step_visitor-text.ensures

pub returns-in-Ok-clause-rest : goal.returns-in-Ok-clause-rest
returns-in-Ok-clause-rest c =
    let w = c.args.speculative in
    let piece = c.args.piece.now in
    let none : Trace = record { opening = c.new.result.opening; steps = c.new.result.steps.items } in
    let read : Trace = record {
      opening = c.into_speculative-speculative.result.1.opening;
      steps = c.into_speculative-speculative.result.1.steps.items;
    } in
    reading_ahead-piece c.recorded_before_is_a_prefix.ensures w none c.new.ensures.none
    c.into_speculative-speculative.result.0 read
    (tokens_from w.body.line piece)
    (λ more. ap (λ (t : TextReached). reading_ahead t (tokens_from t.body.line piece) more)
    (sym c.with_step_visitor-text.ensures) ∙ c.in-Ok.ensures.rest more
    ∙ ap (λ (t : TextReached). reading_ahead t [] more)
    (sym c.into_speculative-speculative.ensures))

pub returns-in-Err-clause-stopped : goal.returns-in-Err-clause-stopped
returns-in-Err-clause-stopped c given more =
    let w = c.args.speculative in
    let piece = c.args.piece.now in
    let s = c.in-Err.stopped in
    let none : Trace = record { opening = c.new.result.opening; steps = c.new.result.steps.items } in
    let read : Trace = record { opening = s.visitor.opening; steps = s.visitor.steps.items } in
    rw (c.steps_before.ensures.fault, c.steps_before.ensures.time, c.steps_before.ensures.steps)
    (StopsAs-piece c.recorded_before_is_a_prefix.ensures w none c.new.ensures.none s.fault.line s.fault.kind read
    s.time (tokens_from w.body.line piece) given more
    (subst (λ (t : TextReached). StopsAs s.fault.line s.fault.kind read s.time
    (reading_ahead t (tokens_from t.body.line piece) more)) c.with_step_visitor-text.ensures
    (c.in-Err.ensures.rest more)))
