use Rattle.std.proofs.Common.{refl, inl}
use Rattle.std.proofs.KnownBytes.{Appends-nil}
use Rattle.vme_confirm_command.proofs.confirm.tell.Goals as goal

pub returns-in-Ok : goal.returns-in-Ok
returns-in-Ok g c = rw c.in-Ok.is
    (rw (c.as_bytes.ensures, c.confirmation_line-line.ensures, c.confirmation_status.ensures) at c.write_answer.ensures)

pub returns-in-Err : goal.returns-in-Err
returns-in-Err g c = rw c.in-Err.is (inl (record {
  out_is = (Appends-nil _, refl);
  err_is = c.tell_refusal.ensures.told;
  status_is = c.tell_refusal.ensures.status;
}))
