use Rattle.std.proofs.Common.{◌≡◌, List, [], arith, map, subst, sym}
use Rattle.std.specs.Prelude.{IfOk}
use Rattle.std.proofs.lemmas.List.{nil_from_length}
use Rattle.vme_part_format.specs.Tables.{SegmentValue, segment_value}
use Rattle.vme_part_format.specs.declared.segment.Segment.{Segment}
use Rattle.vme_part_listing.specs.Marks.{ListsFiles}
use Rattle.vme_part_listing.specs.declared.answers.ListingAnswer.TheVariants as listed
use Rattle.vme_part_listing.proofs.MarkedFiles.{ListsFiles-no_segments}
use Rattle.vme_parts.proofs.Ordering.{map-first_and_rest, IsSegment-rest, IsSegment-item_at}
use Rattle.vme_part_listing.proofs.listing.list_all.Goals as goal

pub listing_from-requires-clause-first : goal.listing_from-requires-clause-first
listing_from-requires-clause-first c =
    IsSegment-item_at c.args.segments.now 0 c.first-item.result (omega (arith, c.in-len1-up.len_at_least))
    c.first-item.is
    c.requires.segments

pub listing_from-requires-clause-rest : goal.listing_from-requires-clause-rest
listing_from-requires-clause-rest c = IsSegment-rest c.args.segments.now c.requires.segments

pub returns-in-len1-up : goal.returns-in-len1-up
returns-in-len1-up c =
    subst (λ (ss : List SegmentValue). IfOk c.listing_from.result (λ what. ListsFiles c.args.judging.now ss what))
    (map-first_and_rest c.args.segments.now c.first-item.result (omega (arith, c.in-len1-up.len_at_least))
    c.first-item.is)
    c.listing_from.ensures

pub returns-in-empty : goal.returns-in-empty
returns-in-empty c =
    let none : c.args.segments.now ≡ [] = nil_from_length c.args.segments.now (omega (arith, c.in-empty.len_below)) in
    subst (λ (xs : List Segment). ListsFiles c.args.judging.now (map segment_value xs) listed.TooLong) (sym none)
    (ListsFiles-no_segments c.args.judging.now)
