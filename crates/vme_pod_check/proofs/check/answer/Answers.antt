use Rattle.std.proofs.Common.{refl, inl}
use Rattle.std.specs.Prelude.{Ok, Err}
use Rattle.std.proofs.KnownBytes.{Appends-nil}
use Rattle.vme_pod_check.proofs.check.answer.Goals as goal

pub returns-in-Ok : goal.returns-in-Ok
returns-in-Ok g c =
    let (binding, dump, binding_reading, dump_reading, given, alone) = c.in-Ok.ensures in
    (binding, dump, Ok c.in-Ok.verdict, binding_reading, dump_reading, (given, alone), c.tell_verdict.ensures)

pub returns-in-Err : goal.returns-in-Err
returns-in-Err g c =
    let (binding, dump, binding_reading, dump_reading, given, alone) = c.in-Err.ensures in (
      binding,
      dump,
      Err c.in-Err.unjudged,
      binding_reading,
      dump_reading,
      (given, alone),
      inl (record {
        out_is = (Appends-nil _, refl);
        err_is = rw c.line.ensures at c.complain.ensures;
        status_is = c.status.ensures;
      }),
    )
