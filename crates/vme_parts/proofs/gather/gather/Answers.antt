use Rattle.std.proofs.Common.{rules, ◌≡◌, List, [], ◌∷◌, length, map, ap, sym, ◌∙◌, subst, arith}
use Rattle.std.proofs.Common.{◌++◌, append_assoc}
use Rattle.std.proofs.Common.{append-nil}
use Rattle.std.specs.Prelude.{All, IfSome, None}
use Rattle.std.specs.List.{last_or}
use Rattle.std.specs.Vec.Iter.{into_iter_items}
use Rattle.std.proofs.lemmas.List.{map_push, nil_from_length}
use Rattle.std.proofs.lemmas.List.Elements.{All-nil}
use Rattle.vme_part_format.specs.Tables.{SegmentValue, segment_value}
use Rattle.vme_part_format.specs.declared.segment.Segment.{Segment}
use Rattle.vme_parts.specs.Alike.{AreTooLong, HaveManyNodes}
use Rattle.vme_parts.specs.Gathering.{Gathered, IsSegment, Precedes}
use Rattle.vme_parts.proofs.Backward.{AreTooLong-append, HaveManyNodes-first}
use Rattle.vme_parts.proofs.Gathering.{Gathered-nothing}
use Rattle.vme_parts.proofs.Likeness.{IsSegmentRefusal-map}
use Rattle.vme_parts.proofs.Ordering.{Precedes-next_of_sorted, Precedes-last_and_all, Precedes-last_and_head}
use Rattle.vme_parts.proofs.gather.gather.Goals as goal

pub loop-segment-init : goal.loop-segment-init
loop-segment-init c =
    let none = c.new-segments.ensures.items in
    record {
      next = tt;
      finite = tt;
      counted = search rules;
      all = c.into_iter-segment-iterator.ensures.into_iter_gives.0;
      segments = rw none (All-nil IsSegment);
      order = rw none tt;
      gathered = rw none Gathered-nothing;
    }

pub add-requires-clause-next : goal.add-requires-clause-next
add-requires-clause-next c =
    let at = c.loop-segment in
    let more = into_iter_items c.next.new.self in
    let steps : into_iter_items at.segment-iterator ≡ c.in-Some.segment ∷ more = c.in-Some.ensures.steps.0 in
    (Precedes-next_of_sorted c.args.all.items at.yielded more c.in-Some.segment (rw (← steps) at.invariant.all)
    c.requires.segments
    c.requires.order).0

pub add-requires-clause-order : goal.add-requires-clause-order
add-requires-clause-order c =
    let at = c.loop-segment in
    let more = into_iter_items c.next.new.self in
    let steps : into_iter_items at.segment-iterator ≡ c.in-Some.segment ∷ more = c.in-Some.ensures.steps.0 in
    let last = last_or None (map segment_value at.segments.items) in
    Precedes-last_and_head last (segment_value c.in-Some.segment) (map segment_value more)
    (subst (λ (xs : List Segment). IfSome last (λ l. All (Precedes l) (map segment_value xs))) steps at.invariant.order)

pub loop-segment-preserved : goal.loop-segment-preserved
loop-segment-preserved c =
    let at = c.loop-segment in
    let x = c.in-Some.segment in
    let more = into_iter_items c.next.new.self in
    let steps : into_iter_items at.segment-iterator ≡ x ∷ more = c.in-Some.ensures.steps.0 in
    let next = Precedes-next_of_sorted c.args.all.items at.yielded more x (rw (← steps) at.invariant.all)
    c.requires.segments
    c.requires.order in
    record {
      next = tt;
      finite = tt;
      counted =
          let was = at.invariant.counted in
          let gone = c.in-Some.ensures.steps.1 in
          let short = ap (λ (l : List Segment). length l) steps in
          omega (arith, was, gone, short);
      all = append_assoc at.yielded (x ∷ []) more ∙ rw (← steps) at.invariant.all;
      segments = c.in-Ok.ensures.segments;
      order = Precedes-last_and_all (last_or None (map segment_value c.add.new.segments.items)) (segment_value x)
          (map segment_value more) c.in-Ok.ensures.last next.1;
      gathered = subst (λ (done : List SegmentValue). Gathered done (map segment_value c.add.new.segments.items))
          (sym (map_push segment_value at.yielded x))
          (c.in-Ok.ensures.gathered (map segment_value at.yielded) at.invariant.gathered);
    }

pub returns-clause-gathered : goal.returns-clause-gathered
returns-clause-gathered c =
    let at = c.loop-segment in
    let empty : into_iter_items at.segment-iterator ≡ []
    = nil_from_length (into_iter_items at.segment-iterator)
    (sym at.invariant.counted ∙ c.in-None.ensures.steps.0) in
    let all : at.yielded ≡ c.args.all.items = sym (append-nil at.yielded) ∙ rw empty at at.invariant.all in
    subst (λ (xs : List Segment). Gathered (map segment_value xs) (map segment_value at.segments.items)) all
    at.invariant.gathered

pub returns-in-Err-clause-refused : goal.returns-in-Err-clause-refused
returns-in-Err-clause-refused c =
    let at = c.loop-segment in
    let x = c.in-Some.segment in
    let more = into_iter_items c.next.new.self in
    let steps : into_iter_items at.segment-iterator ≡ x ∷ more = c.in-Some.ensures.steps.0 in
    let old = map segment_value at.segments.items in
    IsSegmentRefusal-map ((done : List SegmentValue) → Gathered done old → AreTooLong (done ++ segment_value x ∷ []))
    (AreTooLong (map segment_value c.args.all.items))
    ((done : List SegmentValue) → Gathered done old → HaveManyNodes (done ++ segment_value x ∷ []))
    (HaveManyNodes (map segment_value c.args.all.items)) c.in-Err.why
    (λ many.
    AreTooLong-append c.args.all.items at.yielded more x (rw (← steps) at.invariant.all)
    (many (map segment_value at.yielded) at.invariant.gathered))
    (λ many.
    HaveManyNodes-first c.args.all.items at.yielded more x (rw (← steps) at.invariant.all)
    (many (map segment_value at.yielded) at.invariant.gathered))
    c.in-Err.ensures.refused
