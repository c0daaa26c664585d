use Rattle.std.proofs.Common.{refl, inl, inr}
use Rattle.std.proofs.KnownBytes.{Appends-nil}
use Rattle.vme_stream.proofs.output.write_answer.Goals as goal

pub returns-in-Ok : goal.returns-in-Ok
returns-in-Ok g c = inl (record {
  out_is = c.in-Ok.ensures;
  err_is = inl (Appends-nil _, refl);
  status_is = refl;
})

pub returns-in-Err : goal.returns-in-Err
returns-in-Err g c = inr (record {
  out_is = c.in-Err.ensures;
  err_is = rw c.cannot_write_line.ensures at c.complain.ensures;
  status_is = refl;
})
