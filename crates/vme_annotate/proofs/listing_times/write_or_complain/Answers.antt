use Rattle.std.proofs.Common.{List, ap, inl, inr, refl, subst, ◌∙◌, ℕ}
use Rattle.std.proofs.KnownBytes.{Appends-nil}
use Rattle.vme_commands.proofs.ListLemmas.{listing_status-verdict}
use Rattle.vme_stream.specs.ListingStatus.{listing_status}
use Rattle.vme_stream.specs.Outputs.{FailsToWrite, Writes}
use Rattle.vme_annotate.proofs.EndsLemmas.{timed_rows_text-timed_text}
use Rattle.vme_annotate.proofs.listing_times.write_or_complain.Goals as goal

pub returns-in-Ok : goal.returns-in-Ok
returns-in-Ok g c = λ t is. inl (record {
  out_is = subst (λ (text : List ℕ). Writes (g.O.Sink.writing c.args.out.now) (g.O.Sink.writing c.write_times.new.sink)
      text) (timed_rows_text-timed_text t c.args.listing.now is) c.in-Ok.ensures;
  err_is = inl (Appends-nil _, refl);
  status_is = c.status.ensures ∙ ap listing_status is.listing_is ∙ listing_status-verdict t;
})

pub returns-in-Err : goal.returns-in-Err
returns-in-Err g c = λ t is. inr (record {
  out_is = subst (λ (text : List ℕ). FailsToWrite (g.O.Sink.writing c.args.out.now)
      (g.O.Sink.writing c.write_times.new.sink) text) (timed_rows_text-timed_text t c.args.listing.now is)
      c.in-Err.ensures;
  err_is = rw c.cannot_write_line.ensures at c.complain.ensures;
  status_is = refl;
})
