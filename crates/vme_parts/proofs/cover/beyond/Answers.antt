use Rattle.std.proofs.Common.{map, subst, sym}
use Rattle.vme_part_format.specs.Tables.{segment_value}
use Rattle.vme_parts.specs.Covering.{AreWithinFiles}
use Rattle.vme_parts.proofs.Covered.{IsBeyond-last, AreWithinFiles-no_segments, AreWithinFiles-last}
use Rattle.vme_parts.proofs.Ordering.{IsSegment-last_item, last_or-last_item, last_or-no_last_item}
use Rattle.vme_parts.proofs.cover.beyond.Goals as goal

pub last_file-file-requires : goal.last_file-file-requires
last_file-file-requires c =
    (IsSegment-last_item c.args.segments.now c.in-Some-last.last.now (sym c.in-Some-last.ensures.value)
    c.requires).numbers

pub returns-then-count-file-clause-beyond : goal.returns-then-count-file-clause-beyond
returns-then-count-file-clause-beyond c =
    IsBeyond-last (map segment_value c.args.segments.now) (segment_value c.in-Some-last.last.now) c.args.files
    c.in-Some.count c.last_file-file.result
    (last_or-last_item c.args.segments.now c.in-Some-last.last.now (sym c.in-Some-last.ensures.value))
    c.last_file-file.ensures c.in-Some.is c.if-count-file.true

pub returns-in_default-last-clause-within : goal.returns-in_default-last-clause-within
returns-in_default-last-clause-within c =
    λ none. AreWithinFiles-no_segments (map segment_value c.args.segments.now) c.args.files
    (last_or-no_last_item c.args.segments.now (sym c.in_default-last.ensures.value))

pub returns-clause-within : goal.returns-clause-within
returns-clause-within c =
    λ none. subst (AreWithinFiles (map segment_value c.args.segments.now)) (sym c.in-Some.is)
    (AreWithinFiles-last (map segment_value c.args.segments.now) (segment_value c.in-Some-last.last.now) c.in-Some.count
    c.last_file-file.result (last_or-last_item c.args.segments.now c.in-Some-last.last.now
    (sym c.in-Some-last.ensures.value))
    c.last_file-file.ensures c.if-count-file.false)
