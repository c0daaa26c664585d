use Rattle.std.proofs.Common.{refl, inl}
use Rattle.std.specs.Prelude.{Ok, Err}
use Rattle.std.proofs.KnownBytes.{Appends-nil}
use Rattle.vme_commands.proofs.list.list_by.Goals as goal

pub returns-in-Ok : goal.returns-in-Ok
returns-in-Ok g c =
    let (binding, dump, binding_reading, dump_reading, given) = c.in-Ok.ensures in
    let (t, recorded, listed) = given in
    (binding, dump, Ok t, binding_reading, dump_reading, recorded, c.tell.ensures t listed)

pub returns-in-Err : goal.returns-in-Err
returns-in-Err g c =
    let (binding, dump, binding_reading, dump_reading, given) = c.in-Err.ensures in (
      binding,
      dump,
      Err c.in-Err.refusal,
      binding_reading,
      dump_reading,
      given,
      inl (record {
        out_is = (Appends-nil _, refl);
        err_is = c.tell_refusal.ensures.told;
        status_is = c.tell_refusal.ensures.status;
      }),
    )
