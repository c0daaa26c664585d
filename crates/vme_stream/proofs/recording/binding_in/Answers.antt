use Rattle.vme_bind.specs.Binding.{BoundLines}
use Rattle.std.proofs.Common.{ap}
use Rattle.std.specs.Prelude.{Result}
use Rattle.vme_bind.specs.declared.fault.BindFault.{BindFault}
use Rattle.vme_stream.specs.Answers.{or_bad_binding}
use Rattle.vme_stream.proofs.AnswerLemmas.{or_bad_binding-gives}
use Rattle.vme_stream.proofs.recording.binding_in.Goals as goal

pub returns-in-Ok : goal.returns-in-Ok
returns-in-Ok c = ap (λ (r : Result BoundLines BindFault). or_bad_binding r) c.in-Ok.ensures

pub returns-in-Err : goal.returns-in-Err
returns-in-Err c = rw c.of_binding.ensures (or_bad_binding-gives c.in-Err.fault.line c.in-Err.fault.kind _
    c.in-Err.ensures)
