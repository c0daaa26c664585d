use Rattle.std.proofs.Common.{List, [], ◌∷◌, ◌++◌, map, ap, sym, ◌∙◌, subst, Option}
use Rattle.std.specs.Prelude.{IfSome, None}
use Rattle.std.specs.List.{last_or}
use Rattle.std.proofs.lemmas.List.{map_push}
use Rattle.std.proofs.lemmas.List.Elements.{All-push, All-same}
use Rattle.vme_part_format.specs.Tables.{SegmentValue, segment_value}
use Rattle.vme_parts.specs.Alike.{AreTooLong, HaveManyNodes}
use Rattle.vme_parts.specs.Gathering.{Gathered, IsSegment, Precedes}
use Rattle.vme_parts.proofs.Likeness.{IsSegmentRefusal-map}
use Rattle.vme_parts.proofs.Ordering.{Gathered-after_last, Gathered-in_last, last_or-push}
use Rattle.vme_parts.proofs.gather.add.Goals as goal

pub returns-then-begins_in_last-clause-gathered : goal.returns-then-begins_in_last-clause-gathered
returns-then-begins_in_last-clause-gathered c =
    λ done g.
    Gathered-in_last done (map segment_value c.args.segments.now.items) (segment_value c.args.next)
    (rw c.as_slice.ensures.value at (c.begins_in_last.ensures.within c.if-begins_in_last.true)) c.requires.segments
    c.requires.next c.requires.order g

pub returns-clause-segments : goal.returns-clause-segments
returns-clause-segments c =
    let mid = c.join_back.new.segments.items in
    let whole = c.in-Ok.whole in
    All-same IsSegment (map segment_value c.push.new.self.items) (map segment_value mid ++ segment_value whole ∷ [])
    (ap (map segment_value) c.in_ok-push.ensures.items ∙ map_push segment_value mid whole)
    (All-push IsSegment (map segment_value mid) (segment_value whole) c.in-Ok.ensures.segments
    c.in-Ok.ensures.next)

pub returns-clause-last : goal.returns-clause-last
returns-clause-last c =
    let mid = c.join_back.new.segments.items in
    let whole = c.in-Ok.whole in
    subst (λ (o : Option SegmentValue). IfSome o (λ last. Precedes last (segment_value c.args.next)))
    (sym (ap (λ xs. last_or None (map segment_value xs)) c.in_ok-push.ensures.items
    ∙ (ap (last_or None) (map_push segment_value mid whole)
    ∙ last_or-push (map segment_value mid) (segment_value whole))))
    c.in-Ok.ensures.first

pub returns-clause-gathered : goal.returns-clause-gathered
returns-clause-gathered c =
    λ done g.
    let mid = c.join_back.new.segments.items in
    let whole = c.in-Ok.whole in
    let next = segment_value c.args.next in
    let behind = rw c.as_slice.ensures.value at (c.begins_in_last.ensures.behind c.if-begins_in_last.false) in
    subst (Gathered (done ++ next ∷ []))
    (sym (ap (map segment_value) c.in_ok-push.ensures.items ∙ map_push segment_value mid whole))
    (c.in-Ok.ensures.gathered (done ++ next ∷ [])
    (Gathered-after_last done (map segment_value c.args.segments.now.items) next behind g))

pub returns-in-Err-clause-refused : goal.returns-in-Err-clause-refused
returns-in-Err-clause-refused c =
    let old = map segment_value c.args.segments.now.items in
    let next = segment_value c.args.next in
    let behind = rw c.as_slice.ensures.value at (c.begins_in_last.ensures.behind c.if-begins_in_last.false) in
    IsSegmentRefusal-map ((done : List SegmentValue) → Gathered done (old ++ next ∷ []) → AreTooLong done)
    ((done : List SegmentValue) → Gathered done old → AreTooLong (done ++ next ∷ []))
    ((done : List SegmentValue) → Gathered done (old ++ next ∷ []) → HaveManyNodes done)
    ((done : List SegmentValue) → Gathered done old → HaveManyNodes (done ++ next ∷ [])) c.in-Err.why
    (λ many done g. many (done ++ next ∷ []) (Gathered-after_last done old next behind g))
    (λ many done g. many (done ++ next ∷ []) (Gathered-after_last done old next behind g)) c.in-Err.ensures.refused
