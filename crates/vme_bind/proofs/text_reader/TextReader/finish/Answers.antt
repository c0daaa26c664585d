use Rattle.std.proofs.Common.{◌∙◌, Some, None, Ok, ap, sym}
use Rattle.vcd_read.specs.Bodies.{finished, place_of}
use Rattle.vcd_read.specs.BodyFold.{body_fold}
use Rattle.vme_bind.specs.BuilderState.{builder_change, builder_instant}
use Rattle.vme_bind.specs.TextPieces.{outcome}
use Rattle.vme_bind.proofs.TextPieceLemmas.{CaptureFailsBy-at_end, CaptureFailsBy-binding}
use Rattle.vme_bind.proofs.text_reader.TextReader.finish.Goals as goal

pub returns-in-None : goal.returns-in-None
returns-in-None g c =
    rw (c.in-None.is) (ap (outcome None) c.in-Ok.ensures ∙ ap Ok (sym c.into_visitor.ensures))

pub returns-in-Some : goal.returns-in-Some
returns-in-Some g c =
    let other = c.args.self.own c.in-Some.fault c.in-Some.is in
    rw (c.in-Some.is) (CaptureFailsBy-binding c.in-Some.fault _ other
    (ap (outcome (Some c.in-Some.fault)) c.in-Ok.ensures))

pub returns-in-Err : goal.returns-in-Err
returns-in-Err g c =
    let p = c.args.self.body_reader in
    CaptureFailsBy-at_end c.args.self.fault c.in-Err.fault (finished builder_change builder_instant p.codes
    (body_fold p.state.timed.visitor p.state.timed.clock) p.state.dump_section (place_of p.state.place))
    c.in-Err.ensures
