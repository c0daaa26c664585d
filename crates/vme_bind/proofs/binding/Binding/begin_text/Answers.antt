use Rattle.std.proofs.Common.{Result, subst, sym}
use Rattle.vme_trace.specs.Trace.{Trace}
use Rattle.vme_bind.specs.TextCapture.{CaptureFailsBy}
use Rattle.vme_bind.specs.declared.fault.CaptureFault.{CaptureFault}
use Rattle.vme_bind.proofs.binding.Binding.begin_text.Goals as goal

pub returns-in-Err-read-clause-begins : goal.returns-in-Err-read-clause-begins
returns-in-Err-read-clause-begins g c =
    let begins = rw c.in-Ok-Ok.field-0-is at c.in-Ok-Ok.ensures.begins in
    λ whole more e.
    subst (λ (r : Result Trace CaptureFault). CaptureFailsBy c.in-Err-read.fault r)
    (sym (begins whole more e)) (c.in-Err-read.ensures.rest more)
