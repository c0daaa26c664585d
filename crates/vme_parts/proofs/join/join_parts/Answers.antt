use Rattle.std.proofs.Common.{◌≡◌, List, map, arith}
use Rattle.std.specs.Prelude.{All}
use Rattle.std.proofs.lemmas.List.{length-map}
use Rattle.std.proofs.lemmas.List.Elements.{All-weaker}
use Rattle.vme_trace.specs.declared.block.Block.{Block}
use Rattle.vme_part_format.specs.Tables.{PartValue, part_value, segment_value}
use Rattle.vme_parts.specs.Alike.{AreTooLong, HaveManyNodes, IsLike, SomeHaveTooManySteps}
use Rattle.vme_parts.specs.Files.{IsPartOf}
use Rattle.vme_parts.specs.Gathering.{segments_of}
use Rattle.vme_parts.proofs.JoinedParts.{AllAlike-unsorted, FitsPart-sorted, Gathered-unsorted, HaveManyNodes-unsorted}
use Rattle.vme_parts.proofs.JoinedParts.{IsCompactPart-sorted, IsSegment-sorted, JoinsParts-sorted}
use Rattle.vme_parts.proofs.JoinedParts.{SegmentsDifferAt-unsorted, SomeHaveTooManySteps-sorted}
use Rattle.vme_parts.proofs.Likeness.{IsSegmentRefusal-map, AreRefused-differs, AreRefused-by_segments}
use Rattle.vme_parts.proofs.join.join_parts.Goals as goal

pub gather-requires-clause-segments : goal.gather-requires-clause-segments
gather-requires-clause-segments c =
    IsSegment-sorted c.args.parts.items c.in_ok-all.all.items c.sort_segments.new.segments.items c.in_ok-all.ensures
    c.sort_segments.ensures.same c.requires

pub returns-clause-joins : goal.returns-clause-joins
returns-clause-joins c =
    JoinsParts-sorted c.args.parts.items c.in_ok-all.all.items c.sort_segments.new.segments.items c.in_ok-all.ensures
    c.sort_segments.ensures.same c.in-Ok.segments.items c.backplane_of-backplane.result c.has_marks-listing.result
    (rw c.as_slice-3.ensures.value at c.in_ok-check_alike.ensures.like) c.requires (omega arith)
    (omega (arith, c.are_too_many.ensures.few c.if-are_too_many.false, c.len-count.ensures)) c.in-Ok.ensures.gathered

pub returns-clause-fits : goal.returns-clause-fits
returns-clause-fits c =
    FitsPart-sorted c.args.parts.items c.in_ok-all.all.items c.sort_segments.new.segments.items c.in_ok-all.ensures
    c.sort_segments.ensures.same c.in-Ok.segments.items c.backplane_of-backplane.result c.has_marks-listing.result
    (rw c.as_slice-3.ensures.value at c.in_ok-check_alike.ensures.like) c.requires (omega arith)
    (omega (arith, c.are_too_many.ensures.few c.if-are_too_many.false, c.len-count.ensures)) c.in-Ok.ensures.gathered

pub returns-clause-one : goal.returns-clause-one
returns-clause-one c =
    record {
      like = rw c.as_slice-3.ensures.value at c.in_ok-check_alike.ensures.like;
      alike = AllAlike-unsorted c.args.parts.items c.in_ok-all.all.items c.sort_segments.new.segments.items
          c.in_ok-all.ensures c.sort_segments.ensures.same
          (rw c.as_slice-4.ensures.value at c.in_default.ensures.alike);
    }

pub returns-clause-compact : goal.returns-clause-compact
returns-clause-compact c =
    IsCompactPart-sorted c.args.parts.items c.in_ok-all.all.items c.sort_segments.new.segments.items c.in_ok-all.ensures
    c.sort_segments.ensures.same c.in-Ok.segments.items c.backplane_of-backplane.result c.has_marks-listing.result
    (rw c.as_slice-3.ensures.value at c.in_ok-check_alike.ensures.like) c.requires (omega arith)
    (omega (arith, c.are_too_many.ensures.few c.if-are_too_many.false, c.len-count.ensures)) c.in-Ok.ensures.gathered

pub compare_all-requires-clause-segments : goal.compare_all-requires-clause-segments
compare_all-requires-clause-segments c =
    rw c.as_slice-4.ensures.value
    (IsSegment-sorted c.args.parts.items c.in_ok-all.all.items c.sort_segments.new.segments.items c.in_ok-all.ensures
    c.sort_segments.ensures.same c.requires)

pub compare_all-requires-clause-order : goal.compare_all-requires-clause-order
compare_all-requires-clause-order c = rw c.as_slice-4.ensures.value c.in_ok-sort_segments.ensures.order

pub returns-in-Err-clause-refused : goal.returns-in-Err-clause-refused
returns-in-Err-clause-refused c =
    let (number, same, apart) = c.in-Err.ensures.apart in
    AreRefused-differs (map part_value c.args.parts.items) c.in-Err.why number same
    (SegmentsDifferAt-unsorted c.args.parts.items c.in_ok-all.all.items c.sort_segments.new.segments.items
    c.in_ok-all.ensures c.sort_segments.ensures.same number (rw c.as_slice-4.ensures.value at apart))

pub returns-in-Err-gather-clause-refused : goal.returns-in-Err-gather-clause-refused
returns-in-Err-gather-clause-refused c =
    let parts = map part_value c.args.parts.items in
    let sorted = map segment_value c.sort_segments.new.segments.items in
    let backplane = c.backplane_of-backplane.result in
    let listing = c.has_marks-listing.result in
    let listed : All (λ (p : PartValue). p.listing ≡ listing) parts =
    All-weaker (IsLike backplane listing) (λ (p : PartValue). p.listing ≡ listing) (λ p like. like.1) parts
    (rw c.as_slice-3.ensures.value at c.in_ok-check_alike.ensures.like) in
    AreRefused-by_segments parts c.in-Err-gather.why
    (IsSegmentRefusal-map (AreTooLong sorted)
    ((files : List Block) → All (IsPartOf files) parts → SomeHaveTooManySteps files) (HaveManyNodes sorted)
    (HaveManyNodes (segments_of parts)) c.in-Err-gather.why
    (SomeHaveTooManySteps-sorted c.args.parts.items c.in_ok-all.all.items c.sort_segments.new.segments.items
    c.in_ok-all.ensures c.sort_segments.ensures.same listing listed)
    (HaveManyNodes-unsorted c.args.parts.items c.in_ok-all.all.items c.sort_segments.new.segments.items
    c.in_ok-all.ensures c.sort_segments.ensures.same)
    c.in-Err-gather.ensures.refused)

pub returns-then-are_too_many-clause-refused : goal.returns-then-are_too_many-clause-refused
returns-then-are_too_many-clause-refused c =
    let segments = c.in-Ok.segments in (
      map segment_value segments.items,
      Gathered-unsorted c.args.parts.items c.in_ok-all.all.items c.sort_segments.new.segments.items c.in_ok-all.ensures
          c.sort_segments.ensures.same (map segment_value segments.items) c.in-Ok.ensures.gathered,
      omega (
        arith,
        c.are_too_many.ensures.many c.if-are_too_many.true,
        c.len-count.ensures,
        length-map segments.items segment_value,
      ),
    )
