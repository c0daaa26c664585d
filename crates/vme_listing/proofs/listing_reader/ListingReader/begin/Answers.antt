use Rattle.vme_listing.proofs.KnownFronts.{header-known_if_enough}
use Rattle.vme_listing.proofs.Readings.{HasNoListing-no_header}
use Rattle.std.proofs.Common.{◌++◌, refl}
use Rattle.vme_listing.proofs.listing_reader.ListingReader.begin.Goals as goal

pub returns-in_err-version-clause-fault : goal.returns-in_err-version-clause-fault
returns-in_err-version-clause-fault c future ends e version rest split =
    let known = header-known_if_enough version c.args.is_rest c.args.bytes.now future rest ends c.requires split in
    c.in_err-version.ensures.none refl version known.0 known.1

pub returns-in_err-version-clause-none : goal.returns-in_err-version-clause-none
returns-in_err-version-clause-none c future ends e =
    HasNoListing-no_header (c.args.bytes.now ++ future) (λ version rest split.
    let known = header-known_if_enough version c.args.is_rest c.args.bytes.now future rest ends c.requires split in
    c.in_err-version.ensures.none refl version known.0 known.1)
