use Rattle.std.proofs.Common.{◌-◌, arith}
use Rattle.vme_parts.proofs.Ordering.{IsSegment-item_at}
use Rattle.vme_parts.proofs.SameFiles.{AllAlike-neighbours, SegmentsDifferAt-neighbours, NextAlike-next}
use Rattle.vme_parts.proofs.same.compare_all.Goals as goal

pub loop-place-init : goal.loop-place-init
loop-place-init c i d lt same = absurd (omega (arith, lt))

pub compare-requires-clause-first : goal.compare-requires-clause-first
compare-requires-clause-first c =
    (IsSegment-item_at c.args.segments.now (c.loop-place.place - 1) c.index-segments-place.result
    (omega (arith, c.loop-place-test.true)) c.index-segments-place.is c.requires.segments).tables

pub compare-requires-clause-second : goal.compare-requires-clause-second
compare-requires-clause-second c =
    (IsSegment-item_at c.args.segments.now c.loop-place.place c.index-segments-place-in-loop-place.result
    c.loop-place-test.true c.index-segments-place-in-loop-place.is c.requires.segments).tables

pub returns-in-Err-clause-apart : goal.returns-in-Err-clause-apart
returns-in-Err-clause-apart c =
    let a = c.index-segments-place.result in
    let b = c.index-segments-place-in-loop-place.result in
    let (same, files, apart) = c.in-Err.ensures.apart in (
      a.first,
      same,
      SegmentsDifferAt-neighbours c.args.segments.now c.loop-place.place a b (omega arith) c.loop-place-test.true
          c.index-segments-place.is
          c.index-segments-place-in-loop-place.is files apart,
    )

pub loop-place-preserved : goal.loop-place-preserved
loop-place-preserved c =
    NextAlike-next c.args.segments.now c.loop-place.place c.index-segments-place.result
    c.index-segments-place-in-loop-place.result (omega arith) c.loop-place-test.true c.index-segments-place.is
    c.index-segments-place-in-loop-place.is c.in_default.ensures.alike c.loop-place.invariant

pub returns-clause-alike : goal.returns-clause-alike
returns-clause-alike c =
    AllAlike-neighbours c.args.segments.now c.requires.segments c.requires.order
    (λ i d lt same. c.loop-place.invariant i d (omega (arith, lt, c.loop-place-test.false)) same)
