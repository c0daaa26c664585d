use Rattle.std.proofs.Common.{inl, inr, ◌≡◌, List, [], map, drop, refl, sym, subst, arith}
use Rattle.std.proofs.lemmas.List.{drop_all, length-map}
use Rattle.vme_part_format.specs.Tables.{SegmentValue, segment_value}
use Rattle.vme_parts.specs.Covering.{AreNext, HasGap}
use Rattle.vme_parts.proofs.Ordering.{IsSegment-item_at}
use Rattle.vme_parts.proofs.ToldFiles.{drop-segment_values}
use Rattle.vme_parts.proofs.cover.covered.Goals as goal

pub next_file-next-requires : goal.next_file-next-requires
next_file-next-requires c =
    (IsSegment-item_at c.args.segments.now c.loop-segment.segment-index c.segment-item.result (omega arith)
    c.segment-item.is
    c.requires).numbers

pub returns-then-segment-next-clause-gap : goal.returns-then-segment-next-clause-gap
returns-then-segment-next-clause-gap c =
    let x = c.segment-item.result in
    let i = c.loop-segment.segment-index in
    let n = c.loop-segment.next in
    let at = drop-segment_values c.args.segments.now i x (omega arith) c.segment-item.is in
    c.loop-segment.invariant.gap n
    (subst (λ (left : List SegmentValue). HasGap n left n) (sym at) (inl (c.if-segment-next.true, refl)))

pub loop-segment-preserved : goal.loop-segment-preserved
loop-segment-preserved c =
    let x = c.segment-item.result in
    let i = c.loop-segment.segment-index in
    let n = c.loop-segment.next in
    let at = drop-segment_values c.args.segments.now i x (omega arith) c.segment-item.is in
    let same : x.first ≡ n = c.if-segment-next.false in
    record {
      next = λ end a.
          c.loop-segment.invariant.next end
          (subst (λ (left : List SegmentValue). AreNext n left end) (sym at) (same, rw c.next_file-next.ensures at a));
      gap = λ k g.
          c.loop-segment.invariant.gap k
          (subst (λ (left : List SegmentValue). HasGap n left k) (sym at)
          (inr (same, rw c.next_file-next.ensures at g)));
    }

pub returns-clause-next : goal.returns-clause-next
returns-clause-next c =
    let ss = map segment_value c.args.segments.now in
    let i = c.loop-segment.segment-index in
    let n = c.loop-segment.next in
    let none : drop i ss ≡ []
    = drop_all i ss (omega (arith, c.loop-segment-test.false, length-map c.args.segments.now segment_value)) in
    c.loop-segment.invariant.next n (subst (λ (left : List SegmentValue). AreNext n left n) (sym none) refl)
