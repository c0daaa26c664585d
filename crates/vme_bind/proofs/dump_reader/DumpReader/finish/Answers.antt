use Rattle.std.proofs.Common.{[], Result, Err, refl, sym, subst}
use Rattle.vme_trace.specs.Trace.{Trace}
use Rattle.vme_bind.specs.TextCapture.{GivesBy}
use Rattle.vme_bind.specs.declared.fault.CaptureFault.{CaptureFault}
use Rattle.vme_bind.proofs.DumpReaderLemmas.{CaptureFailsBy-not_memory}
use Rattle.vme_bind.proofs.dump_reader.DumpReader.finish.Goals as goal

pub returns-in-Definitions : goal.returns-in-Definitions
returns-in-Definitions g c = rw c.in-Definitions.is c.record_text.ensures.gives

pub returns-in-Ok : goal.returns-in-Ok
returns-in-Ok g c = rw c.in-Body.is (subst (λ (r : Result Trace CaptureFault). GivesBy (λ w. g.F.StepVisitor.recorded w)
    c.finish.result r) (sym (c.in-Ok.ensures.rest [])) c.finish.ensures)

pub returns-in-Err : goal.returns-in-Err
returns-in-Err g c = rw c.in-Body.is (c.in-Err.ensures.rest [])

pub returns-in-Failed : goal.returns-in-Failed
returns-in-Failed g c =
    let first = c.in-Failed.first in
    rw c.in-Failed.is (CaptureFailsBy-not_memory first.fault (Err first.fault) first.not_want refl)
