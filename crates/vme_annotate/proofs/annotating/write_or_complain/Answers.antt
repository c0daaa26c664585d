use Rattle.std.proofs.Common.{ap, inl, inr, refl, ◌∙◌}
use Rattle.std.proofs.KnownBytes.{Appends-nil}
use Rattle.vme_commands.proofs.ListLemmas.{listing_status-verdict}
use Rattle.vme_stream.specs.ListingStatus.{listing_status}
use Rattle.vme_annotate.proofs.EndsLemmas.{annotated-IsAnnotated}
use Rattle.vme_annotate.proofs.annotating.write_or_complain.Goals as goal

pub returns-in-Ok : goal.returns-in-Ok
returns-in-Ok g c = λ t is.
    let told = rw (c.as_slice.ensures.value, c.as_slice-2.ensures.value) at c.in-Ok.ensures in
    let (start, put, starts, placed, are, written) = told t is.timed is.has_times is.planned in (
      _,
      annotated-IsAnnotated t c.args.annotated.now is start put starts placed are,
      inl (record {
        out_is = written;
        err_is = inl (Appends-nil _, refl);
        status_is = c.status.ensures ∙ ap listing_status is.timed.listing_is ∙ listing_status-verdict t;
      }),
    )

pub returns-in-Err : goal.returns-in-Err
returns-in-Err g c = λ t is.
    let told = rw (c.as_slice.ensures.value, c.as_slice-2.ensures.value) at c.in-Err.ensures in
    let (start, put, starts, placed, are, failed) = told t is.timed is.has_times is.planned in (
      _,
      annotated-IsAnnotated t c.args.annotated.now is start put starts placed are,
      inr (record {
        out_is = failed;
        err_is = rw c.cannot_write_line.ensures at c.complain.ensures;
        status_is = refl;
      }),
    )
