use Rattle.std.proofs.Common.{refl, inl, inr}
use Rattle.std.proofs.KnownBytes.{Appends-nil}
use Rattle.vme_stream.proofs.OutputLemmas.{AppendsFront-take}
use Rattle.vme_part_command.proofs.tell.put_listing.Goals as goal

pub returns-in-Ok : goal.returns-in-Ok
returns-in-Ok g c = inl (record {
  out_is = (c.in-Ok.ensures.whole, c.in-Ok.ensures.failures);
  err_is = inl (Appends-nil _, refl);
  status_is = c.listing_status.ensures.status;
})

pub returns-in-Err : goal.returns-in-Err
returns-in-Err g c = inr (record {
  out_is = (AppendsFront-take _ _ _ c.in-Err.ensures.front, c.in-Err.ensures.failures);
  err_is = rw c.cannot_write_line.ensures at c.complain.ensures;
  status_is = refl;
})
