use Rattle.std.proofs.Common.{Ok, Err}
use Rattle.vme_trace.specs.Trace.{Trace}
use Rattle.vme_bind.proofs.TextCaptureLemmas.{capture_of_text-limited, capture_of_text-fails}
use Rattle.vme_bind.proofs.binding.Binding.capture_text.Goals as goal

pub returns-in-Ok-captured : goal.returns-in-Ok-captured
returns-in-Ok-captured c =
    let t : Trace = record { opening = c.in-Ok.kept.opening; steps = c.in-Ok.kept.steps.items } in
    capture_of_text-limited c.args.self.now c.args.text.now t (Ok c.in-Ok-captured.capture) c.in-Ok.ensures.gives
    c.in-Ok-captured.ensures

pub returns-in-Err-captured : goal.returns-in-Err-captured
returns-in-Err-captured c =
    let t : Trace = record { opening = c.in-Ok.kept.opening; steps = c.in-Ok.kept.steps.items } in
    capture_of_text-limited c.args.self.now c.args.text.now t (Err c.in-Err-captured.fault) c.in-Ok.ensures.gives
    c.in-Err-captured.ensures

pub returns-in-Err : goal.returns-in-Err
returns-in-Err c = capture_of_text-fails c.args.self.now c.args.text.now c.in-Err.fault c.in-Err.ensures.gives
