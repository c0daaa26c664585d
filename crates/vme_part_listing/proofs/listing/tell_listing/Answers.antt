use Rattle.std.proofs.lemmas.Result.{IfOk-weaker}
use Rattle.vme_part_format.specs.Tables.{part_value}
use Rattle.vme_parts.proofs.JoinedParts.{IsSegment-of_part}
use Rattle.vme_part_listing.proofs.MarkedFiles.{DeterminesListingAnswer-listing, DeterminesListingAnswer-refused}
use Rattle.vme_part_listing.proofs.MarkedFiles.{DeterminesListingAnswer-unmarked}
use Rattle.vme_part_listing.proofs.listing.tell_listing.Goals as goal

pub list_all-requires-clause-segments : goal.list_all-requires-clause-segments
list_all-requires-clause-segments c =
    rw c.as_slice.ensures.value (IsSegment-of_part (part_value c.args.part.now) c.requires)

pub returns-in-Err : goal.returns-in-Err
returns-in-Err c = DeterminesListingAnswer-refused (part_value c.args.part.now) c.args.files c.in-Err.told
    c.in-Err.ensures.judges

pub returns-then-not-part : goal.returns-then-not-part
returns-then-not-part c = DeterminesListingAnswer-unmarked (part_value c.args.part.now) c.args.files c.if-not-part.true

pub returns : goal.returns
returns c =
    let lists = rw c.as_slice.ensures.value at c.list_all.ensures in
    IfOk-weaker c.list_all.result _ _
    (λ what k. DeterminesListingAnswer-listing (part_value c.args.part.now) c.args.files c.in-Ok.judging what
    c.if-not-part.false
    c.in-Ok.ensures.judges k) lists
