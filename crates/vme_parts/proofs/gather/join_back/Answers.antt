use Rattle.std.proofs.Common.{◌≡◌, ◌+◌, ◌-◌, ◌≤◌, ◌^◌, List, [], ◌∷◌, ◌++◌, map, sym, ◌∙◌, subst, append-nil, vec_len}
use Rattle.std.specs.Prelude.{All}
use Rattle.vme_part_format.specs.Tables.{SegmentValue, segment_value}
use Rattle.vme_part_format.specs.declared.segment.Segment.{Segment}
use Rattle.vme_parts.specs.Alike.{AreTooLong, HaveManyNodes}
use Rattle.vme_parts.specs.Gathering.{Gathered, IsSegment}
use Rattle.vme_parts.proofs.Backward.{IsSegment-first, IsSegment-popped_front, IsSegment-popped_last}
use Rattle.vme_parts.proofs.Backward.{AreTooLong-buddies, Gathered-buddies_joined, HaveManyNodes-buddies}
use Rattle.vme_parts.proofs.Halves.{Precedes-of_both, IsSegment-of_both}
use Rattle.vme_parts.proofs.Likeness.{IsSegmentRefusal-map}
use Rattle.vme_parts.proofs.Ordering.{Precedes-reflexive}
use Rattle.vme_parts.proofs.gather.join_back.Goals as goal

pub loop-last-init : goal.loop-last-init
loop-last-init c =
    record {
      segments = c.requires.segments;
      next = c.requires.next;
      first = Precedes-reflexive (segment_value c.args.next);
      gathered = λ done g. g;
    }

pub are_joinable-requires : goal.are_joinable-requires
are_joinable-requires c =
    (IsSegment-popped_last c.loop-last.segments.items c.pop.new.self.items c.in-Some.last c.in-Some.ensures.items
    c.loop-last.invariant.segments).numbers

pub returns-then-not-are_joinable-clause-segments : goal.returns-then-not-are_joinable-clause-segments
returns-then-not-are_joinable-clause-segments c =
    let same = c.in_ok-push.ensures.items ∙ sym c.in-Some.ensures.items in
    subst (λ (xs : List Segment). All IsSegment (map segment_value xs)) (sym same) c.loop-last.invariant.segments

pub returns-then-not-are_joinable-clause-gathered : goal.returns-then-not-are_joinable-clause-gathered
returns-then-not-are_joinable-clause-gathered c =
    λ done g.
    let same = c.in_ok-push.ensures.items ∙ sym c.in-Some.ensures.items in
    subst (λ (xs : List Segment). Gathered done (map segment_value xs ++ segment_value c.loop-last.next ∷ []))
    (sym same)
    (c.loop-last.invariant.gathered done g)

pub joined-requires-clause-first : goal.joined-requires-clause-first
joined-requires-clause-first c =
    (IsSegment-popped_last c.loop-last.segments.items c.pop.new.self.items c.in-Some.last c.in-Some.ensures.items
    c.loop-last.invariant.segments).tables

pub loop-last-preserved : goal.loop-last-preserved
loop-last-preserved c =
    let s = segment_value c.in-Some.last in
    let t = segment_value c.loop-last.next in
    let r = segment_value c.in-Ok.whole in
    let buddies = c.are_joinable.ensures.buddies c.if-not-are_joinable.false in
    let was = c.in-Some.ensures.items in
    record {
      segments = IsSegment-popped_front c.loop-last.segments.items c.pop.new.self.items c.in-Some.last was
          c.loop-last.invariant.segments;
      next = IsSegment-of_both s t r c.in-Ok.ensures.both buddies
          (IsSegment-popped_last c.loop-last.segments.items c.pop.new.self.items c.in-Some.last was
          c.loop-last.invariant.segments);
      first = Precedes-of_both s t r (segment_value c.args.next) c.in-Ok.ensures.both buddies
          c.loop-last.invariant.first;
      gathered = λ done g.
          Gathered-buddies_joined done c.loop-last.segments.items c.pop.new.self.items c.in-Some.last t r was
          c.in-Ok.ensures.both buddies c.in-Ok.ensures.compact (c.loop-last.invariant.gathered done g);
    }

pub returns-clause-segments : goal.returns-clause-segments
returns-clause-segments c =
    IsSegment-first (vec_len c.loop-last.segments - 1) c.loop-last.segments.items c.pop.new.self.items
    c.pop.ensures.rest
    c.loop-last.invariant.segments

pub returns-clause-gathered : goal.returns-clause-gathered
returns-clause-gathered c =
    λ done g.
    let same : c.loop-last.segments.items ≡ c.pop.new.self.items
    = c.in_default.ensures.items ∙ append-nil c.pop.new.self.items in
    subst (λ (xs : List Segment). Gathered done (map segment_value xs ++ segment_value c.loop-last.next ∷ [])) same
    (c.loop-last.invariant.gathered done g)

pub joined-requires-clause-second : goal.joined-requires-clause-second
joined-requires-clause-second c = c.loop-last.invariant.next.tables

pub joined-requires-clause-buddies : goal.joined-requires-clause-buddies
joined-requires-clause-buddies c = c.are_joinable.ensures.buddies c.if-not-are_joinable.false

pub joined-requires-clause-goes_on : goal.joined-requires-clause-goes_on
joined-requires-clause-goes_on c = c.are_joinable.ensures.goes_on c.if-not-are_joinable.false

pub returns-in-Err-clause-refused : goal.returns-in-Err-clause-refused
returns-in-Err-clause-refused c =
    let s = segment_value c.in-Some.last in
    let t = segment_value c.loop-last.next in
    let all = map segment_value c.args.segments.now.items ++ segment_value c.args.next ∷ [] in
    IsSegmentRefusal-map (2 ^ 64 ≤ s.steps + t.steps) ((done : List SegmentValue) → Gathered done all → AreTooLong done)
    (HaveManyNodes (s ∷ t ∷ [])) ((done : List SegmentValue) → Gathered done all → HaveManyNodes done) c.in-Err.why
    (λ many done g.
    AreTooLong-buddies done c.loop-last.segments.items c.pop.new.self.items c.in-Some.last t c.in-Some.ensures.items
    (c.are_joinable.ensures.buddies c.if-not-are_joinable.false)
    (c.are_joinable.ensures.goes_on c.if-not-are_joinable.false) many (c.loop-last.invariant.gathered done g))
    (λ many done g.
    HaveManyNodes-buddies done c.loop-last.segments.items c.pop.new.self.items c.in-Some.last t c.in-Some.ensures.items
    many (c.loop-last.invariant.gathered done g))
    c.in-Err.ensures.refused
