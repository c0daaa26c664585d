use Rattle.std.proofs.Common.{◌≡◌, ◌-◌, ◌+◌, ◌++◌, ◌∷◌, [], None, Some, map}
use Rattle.std.proofs.lemmas.List.{map_push}
use Rattle.std.proofs.lemmas.Result.{err_from_is_err_and}
use Rattle.vme_part_format.specs.Reading.{segments_at}
use Rattle.vme_part_format.specs.Tables.{last_of, segment_value}
use Rattle.vme_part_format.proofs.Loops.{after_items-all, after_items-fails, after_items-one_more, segments_at-fails}
use Rattle.vme_part_format.proofs.Loops.{segments_at-all, segments_at-one_more}
use Rattle.vme_part_format.proofs.read.read_segments.Goals as goal

pub returns-in_err-segment : goal.returns-in_err-segment
returns-in_err-segment c =
    let l = c.loop in
    let p = err_from_is_err_and c.from_residual.result c.from_residual.ensures.1 in
    rw (p.1, p.2)
    (after_items-fails c.in_err-segment.field-0.0 (map segment_value l.segments.items)
    (segments_at c.args.listing l.before (c.args.count - l.counter) l.fields)
    (segments_at c.args.listing None c.args.count c.args.fields.now)
    (segments_at-fails c.args.listing c.in_err-segment.field-0.0 l.before c.args.count l.counter l.fields
    c.loop-test.true
    c.in_err-segment.ensures.segment) l.invariant)

pub loop-preserved : goal.loop-preserved
loop-preserved c =
    let l = c.loop in
    let s = c.in_ok-segment.segment in
    let e : map segment_value c.push.new.self.items ≡ map segment_value l.segments.items ++ segment_value s ∷ [] =
    rw c.in_ok-push.ensures.items (map_push segment_value l.segments.items s) in
    rw (e, c.last_file.ensures)
    (after_items-one_more (map segment_value l.segments.items) (segment_value s)
    (segments_at c.args.listing l.before (c.args.count - l.counter) l.fields)
    (segments_at c.args.listing (Some (last_of s.first s.order)) (c.args.count - (l.counter + 1))
    c.read_segment.new.fields)
    (segments_at c.args.listing None c.args.count c.args.fields.now)
    (segments_at-one_more c.args.listing l.before c.args.count l.counter l.fields (segment_value s)
    c.read_segment.new.fields
    c.loop-test.true c.in_ok-segment.ensures.segment) l.invariant)

pub returns : goal.returns
returns c =
    let l = c.loop in
    after_items-all (map segment_value l.segments.items) l.fields
    (segments_at c.args.listing l.before (c.args.count - l.counter) l.fields)
    (segments_at c.args.listing None c.args.count c.args.fields.now)
    (segments_at-all c.args.listing l.before c.args.count l.counter l.fields c.loop-test.false) l.invariant
