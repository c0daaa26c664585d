use Rattle.std.proofs.Common.{[], Result, sym, subst}
use Rattle.vme_trace.specs.Trace.{Trace}
use Rattle.vme_bind.specs.TextCapture.{GivesBy}
use Rattle.vme_bind.specs.declared.fault.CaptureFault.{CaptureFault}
use Rattle.vme_commands.proofs.judged_dump.finish.Goals as goal

pub returns-in-Ok : goal.returns-in-Ok
returns-in-Ok g c = rw c.in-Body.is (subst (λ (r : Result Trace CaptureFault). GivesBy (λ (w : Trace). w)
    c.finish.result r) (sym (c.in-Ok.ensures.rest [])) c.finish.ensures)

pub returns-in-Err : goal.returns-in-Err
returns-in-Err g c = rw c.in-Body.is (c.in-Err.ensures.rest [])
