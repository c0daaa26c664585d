use Rattle.vme_listing.proofs.WellPlaced.{is_well_placed-listing}
use Rattle.vme_listing.proofs.InVersions.{is_well_placed-in_version}
use Rattle.vme_listing.proofs.listing.listings_are_well_placed.Goals as goal

pub returns-clause-recorded : goal.returns-clause-recorded
returns-clause-recorded c = is_well_placed-listing

pub returns-clause-versions : goal.returns-clause-versions
returns-clause-versions c = is_well_placed-in_version
