use Rattle.std.proofs.Common.{sym, ◌∙◌}
use Rattle.vme_stream.proofs.AnswerLemmas.{recorded_by-binding_fault, recorded_by-captured, recorded_by-dump_refused}
use Rattle.vme_stream.proofs.recording.recorded_in.Goals as goal

pub returns-in-Ok : goal.returns-in-Ok
returns-in-Ok c = recorded_by-captured c.args.bound.now c.args.text.now c.in-Ok.capture c.in-Ok.ensures

pub returns-in-BadBinding : goal.returns-in-BadBinding
returns-in-BadBinding c =
    recorded_by-binding_fault c.args.bound.now c.args.text.now c.in-Err.fault c.in-BadBinding.fault c.in-Err.ensures
    (sym c.of_capture.ensures ∙ c.in-BadBinding.is)

pub returns-in_default : goal.returns-in_default
returns-in_default c =
    rw c.of_capture.ensures (recorded_by-dump_refused c.args.bound.now c.args.text.now c.in-Err.fault c.in-Err.ensures
    (λ kept is. c.in_default.not-BadBinding kept (c.of_capture.ensures ∙ is)))
