use Rattle.vme_confirm_command.proofs.RowLemmas.{IsSomeReading-rows}
use Rattle.vme_confirm_command.proofs.listing_rows.ListingRows.into_source.Goals as goal

pub returns : goal.returns
returns g c old version rows gave =
    let self = c.args.self in
    IsSomeReading-rows old version (g.L.Source.reading self.source) self.input self.reader self.fault rows gave
