-- The last row of a listing is that of its verdict, whose status is that of the listing.
use Rattle.std.proofs.Common.{sym, ap, ◌∙◌, ◌-◌, List, length}
use Rattle.std.specs.Prelude.{Option, slice_get}
use Rattle.std.specs.Option.{option_copied}
use Rattle.vme_listing.specs.declared.row.Row.{Row}
use Rattle.vme_summary.proofs.Times.{last_or-slice_get}
use Rattle.vme_stream.specs.ListingStatus.{status_of_last}
use Rattle.vme_stream.proofs.listing.listing_status.Goals as goal

-- the last row, if there is one
abbrev last_in : List Row → Option Row
last_in rows = slice_get rows (length rows - 1)

pub returns-in-Some : goal.returns-in-Some
returns-in-Some c = record {
  status =
      c.row_status.ensures
      ∙ ap status_of_last (sym (last_or-slice_get c.args.listing.now.rows ∙ ap last_in (sym c.rows.ensures)
      ∙ sym c.last.ensures.value ∙ ap option_copied c.in-Some.is));
}

pub returns-in-None : goal.returns-in-None
returns-in-None c = record {
  status =
      ap status_of_last (sym (last_or-slice_get c.args.listing.now.rows ∙ ap last_in (sym c.rows.ensures)
      ∙ sym c.last.ensures.value
      ∙ ap option_copied c.in-None.is));
}
