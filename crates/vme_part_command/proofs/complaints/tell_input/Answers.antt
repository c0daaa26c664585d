use Rattle.std.proofs.Common.{inl, inr, refl}
use Rattle.vme_part_command.proofs.complaints.tell_input.Goals as goal

pub returns-in-Ok : goal.returns-in-Ok
returns-in-Ok g c = inl (record {
  err_is = rw (c.as_bytes.ensures, c.in-Ok.ensures) at c.say.ensures;
  status_is = refl;
})

pub returns-in-Err : goal.returns-in-Err
returns-in-Err g c = inr c.no_memory.ensures
