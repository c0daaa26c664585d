use Rattle.std.proofs.Common.{refl, inl, inr, ap, ◌∙◌}
use Rattle.std.proofs.KnownBytes.{Appends-nil}
use Rattle.vme_commands.proofs.ListLemmas.{listing_status-verdict}
use Rattle.vme_commands.proofs.ListLemmas.{Appends-front_of_same_listing, Appends-same_listing}
use Rattle.vme_stream.specs.ListingStatus.{listing_status}
use Rattle.vme_commands.proofs.list.tell.Goals as goal

pub returns-in-Ok : goal.returns-in-Ok
returns-in-Ok g c = λ t is. inl (record {
  out_is = (Appends-same_listing _ _ _ _ is c.in-Ok.ensures.whole, c.in-Ok.ensures.failures);
  err_is = inl (Appends-nil _, refl);
  status_is = c.listing_status.ensures.status ∙ ap listing_status is ∙ listing_status-verdict t;
})

pub returns-in-Err : goal.returns-in-Err
returns-in-Err g c = λ t is. inr (record {
  out_is = (Appends-front_of_same_listing _ _ _ _ is c.in-Err.ensures.front, c.in-Err.ensures.failures);
  err_is = rw c.cannot_write_line.ensures at c.complain.ensures;
  status_is = refl;
})
