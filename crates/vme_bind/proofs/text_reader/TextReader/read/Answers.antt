use Rattle.std.proofs.Common.{Result, ap, refl}
use Rattle.vcd_read.specs.Tokens.{tokens_from}
use Rattle.vcd_read.specs.Header.{◌>>=◌}
use Rattle.vcd_read.specs.Bodies.{ahead, place_of}
use Rattle.vcd_read.specs.BodyFold.{State, at_end, body_fold}
use Rattle.vcd_read.specs.declared.fault.VcdFault.{VcdFault}
use Rattle.vme_bind.specs.BuilderState.{BuilderState, builder_change, builder_instant}
use Rattle.vme_bind.specs.TextPieces.{outcome}
use Rattle.vme_bind.proofs.TextPieceLemmas.{CaptureFailsBy-outcome}
use Rattle.vme_bind.proofs.text_reader.TextReader.read.Goals as goal

pub returns-in-Ok-clause-rest : goal.returns-in-Ok-clause-rest
returns-in-Ok-clause-rest g c = λ more. ap (λ (r : Result (State BuilderState) VcdFault). outcome c.args.self.fault
    (r >>= at_end builder_instant)) (c.in-Ok.ensures.rest more)

pub returns-in-Err-clause-rest : goal.returns-in-Err-clause-rest
returns-in-Err-clause-rest g c =
    let p = c.args.self.body_reader in
    let read = ahead builder_change builder_instant p.codes (body_fold p.state.timed.visitor p.state.timed.clock)
    p.state.dump_section (place_of p.state.place) (tokens_from p.line c.args.piece.now) in
    CaptureFailsBy-outcome c.args.self.fault c.in-Err.fault (λ more. outcome c.args.self.fault
    (read more >>= at_end builder_instant)) read (λ more. refl) c.in-Err.ensures.rest
