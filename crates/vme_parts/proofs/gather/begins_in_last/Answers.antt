use Rattle.std.proofs.Common.{sym}
use Rattle.std.proofs.lemmas.Bool.{leb-false, leb-true}
use Rattle.vme_part_format.specs.Tables.{segment_value}
use Rattle.vme_parts.proofs.Ordering.{begins_after-last_item, begins_after-no_segments, BeginsInLast-last_item}
use Rattle.vme_parts.proofs.Ordering.{IsSegment-last_item}
use Rattle.vme_parts.proofs.gather.begins_in_last.Goals as goal

pub last_file-requires : goal.last_file-requires
last_file-requires c =
    (IsSegment-last_item c.args.segments.now c.in-Some.last.now (sym c.in-Some.ensures.value) c.requires).numbers

pub returns-in-Some-clause-within : goal.returns-in-Some-clause-within
returns-in-Some-clause-within c =
    λ t. BeginsInLast-last_item c.args.segments.now c.in-Some.last.now (segment_value c.args.next.now)
    (sym c.in-Some.ensures.value)
    (rw c.last_file.ensures at (leb-true c.args.next.now.first c.last_file.result t))

pub returns-in-Some-clause-behind : goal.returns-in-Some-clause-behind
returns-in-Some-clause-behind c =
    λ t. begins_after-last_item c.args.segments.now c.in-Some.last.now (segment_value c.args.next.now)
    (sym c.in-Some.ensures.value)
    (rw c.last_file.ensures at (leb-false c.args.next.now.first c.last_file.result t))

pub returns-in-None-clause-behind : goal.returns-in-None-clause-behind
returns-in-None-clause-behind c =
    λ t. begins_after-no_segments c.args.segments.now (segment_value c.args.next.now) (sym c.in-None.ensures.value)
