-- Buddies at the end of gathered segments become one, or have too many steps or nodes.
use Rattle.std.proofs.Common.{◌≡◌, ℕ, ◌+◌, ◌≤◌, ◌^◌, List, [], ◌∷◌, ◌++◌, map, take, ap, sym, ◌∙◌, subst, append_assoc}
use Rattle.std.specs.Prelude.{All}
use Rattle.std.proofs.lemmas.List.{map-append, map_push, take-map}
use Rattle.std.proofs.lemmas.List.Elements.{All-head, All-same, All-tail, All-take}
use Rattle.vme_trace.proofs.ListLaws.{All-back, All-front}
use Rattle.vme_part_format.specs.Sizes.{IsCompact}
use Rattle.vme_part_format.specs.Tables.{SegmentValue, segment_value}
use Rattle.vme_part_format.specs.declared.segment.Segment.{Segment}
use Rattle.vme_parts.specs.Alike.{AreTooLong, HaveManyNodes}
use Rattle.vme_parts.specs.Buddies.{AreBuddies, SegmentGoesOn}
use Rattle.vme_parts.specs.Files.{files_of}
use Rattle.vme_parts.specs.Gathering.{Gathered, IsSegment}
use Rattle.vme_parts.specs.Joined.{IsOfBoth}
use Rattle.vme_parts.specs.Stands.{SegmentStandsFor}
use Rattle.vme_parts.proofs.Gathering.{All-last, Gathered-merged}
use Rattle.vme_parts.proofs.ManyNodes.{HaveManyNodes-append, HaveManyNodes-gathered}
use Rattle.vme_parts.proofs.Merging.{SomeHaveTooManySteps-buddies}

-- the values of `old` are those of `new` and then that of x, which was popped
map-popped : (old new : List Segment) (x : Segment) → old ≡ new ++ x ∷ []
    → map segment_value old ≡ map segment_value new ++ segment_value x ∷ []
map-popped old new x e = ap (map segment_value) e ∙ map_push segment_value new x

-- the segments that are left when x was popped satisfy `IsSegment` if all did
pub IsSegment-popped_front : (old new : List Segment) (x : Segment) → old ≡ new ++ x ∷ []
    → All IsSegment (map segment_value old)
    → All IsSegment (map segment_value new)
IsSegment-popped_front old new x e all =
    All-front IsSegment (map segment_value new) (segment_value x ∷ [])
    (All-same IsSegment (map segment_value new ++ segment_value x ∷ []) (map segment_value old)
    (sym (map-popped old new x e)) all)

-- the segment x that was popped satisfies `IsSegment` if all did
pub IsSegment-popped_last : (old new : List Segment) (x : Segment) → old ≡ new ++ x ∷ []
    → All IsSegment (map segment_value old)
    → IsSegment (segment_value x)
IsSegment-popped_last old new x e all =
    All-last IsSegment (map segment_value new) (segment_value x)
    (All-same IsSegment (map segment_value new ++ segment_value x ∷ []) (map segment_value old)
    (sym (map-popped old new x e)) all)

-- the first n segments of a list satisfy `IsSegment` if all do
pub IsSegment-first : (n : ℕ) (old new : List Segment) → new ≡ take n old → All IsSegment (map segment_value old)
    → All IsSegment (map segment_value new)
IsSegment-first n old new e all =
    All-same IsSegment (map segment_value new) (take n (map segment_value old))
    (ap (map segment_value) e ∙ sym (take-map segment_value n old))
    (All-take IsSegment n (map segment_value old) all)

-- the values of `old` and then t are those of `new` and then x and t
map-popped_and_next : (old new : List Segment) (x : Segment) (t : SegmentValue) → old ≡ new ++ x ∷ []
    → map segment_value old ++ t ∷ [] ≡ map segment_value new ++ segment_value x ∷ t ∷ []
map-popped_and_next old new x t e =
    ap (λ (k : List SegmentValue). k ++ t ∷ []) (map-popped old new x e)
    ∙ append_assoc (map segment_value new) (segment_value x ∷ []) (t ∷ [])

-- `Gathered` holds if r, joined from the last segment x and its buddy t, replaces both
pub Gathered-buddies_joined : (done : List SegmentValue) (old new : List Segment) (x : Segment) (t r : SegmentValue)
    → old ≡ new ++ x ∷ [] → IsOfBoth (segment_value x) t r → AreBuddies (segment_value x) t → IsCompact r
    → Gathered done (map segment_value old ++ t ∷ []) → Gathered done (map segment_value new ++ r ∷ [])
Gathered-buddies_joined done old new x t r e b h few g =
    Gathered-merged done (map segment_value new) (segment_value x) t r
    (subst (Gathered done) (map-popped_and_next old new x t e) g) b h few

-- if the last two of gathered segments are buddies that follow one another and have too many steps, those of which they
-- were gathered are too long
pub AreTooLong-buddies : (done : List SegmentValue) (old new : List Segment) (x : Segment) (t : SegmentValue)
    → old ≡ new ++ x ∷ [] → AreBuddies (segment_value x) t → SegmentGoesOn (segment_value x) t
    → 2 ^ 64 ≤ x.steps + t.steps → Gathered done (map segment_value old ++ t ∷ []) → AreTooLong done
AreTooLong-buddies done old new x t e h goes_on many g =
    let front = map segment_value new in
    let s = segment_value x in
    let two : Gathered done (front ++ s ∷ t ∷ []) = subst (Gathered done) (map-popped_and_next old new x t e) g in
    λ listing files stand.
    let P : SegmentValue → Type 0 = λ k. SegmentStandsFor listing k (files_of files k) in
    let back = All-back P front (s ∷ t ∷ []) (two.stand listing files stand) in
    SomeHaveTooManySteps-buddies s t h goes_on many listing files (All-head P s (t ∷ []) back)
    (All-head P t [] (All-tail P s (t ∷ []) back))

-- if the last two of gathered segments have too many nodes, those of which they were gathered have
pub HaveManyNodes-buddies : (done : List SegmentValue) (old new : List Segment) (x : Segment) (t : SegmentValue)
    → old ≡ new ++ x ∷ [] → HaveManyNodes (segment_value x ∷ t ∷ []) → Gathered done (map segment_value old ++ t ∷ [])
    → HaveManyNodes done
HaveManyNodes-buddies done old new x t e many g =
    HaveManyNodes-gathered done (map segment_value new) (segment_value x) t
    (subst (Gathered done) (map-popped_and_next old new x t e) g) many

-- the values of all segments are those of `done` and x, and then those of the rest
map-done_and_rest : (all done rest : List Segment) (x : Segment) → done ++ x ∷ rest ≡ all
    → (map segment_value done ++ segment_value x ∷ []) ++ map segment_value rest ≡ map segment_value all
map-done_and_rest all done rest x e =
    append_assoc (map segment_value done) (segment_value x ∷ []) (map segment_value rest)
    ∙ (sym (map-append segment_value done (x ∷ rest)) ∙ ap (map segment_value) e)

-- segments are too long if the first of them are
pub AreTooLong-append : (all done rest : List Segment) (x : Segment) → done ++ x ∷ rest ≡ all
    → AreTooLong (map segment_value done ++ segment_value x ∷ []) → AreTooLong (map segment_value all)
AreTooLong-append all done rest x e long =
    let front = map segment_value done ++ segment_value x ∷ [] in
    let left_values = map segment_value rest in
    λ listing files stand.
    let P : SegmentValue → Type 0 = λ k. SegmentStandsFor listing k (files_of files k) in
    long listing files (All-front P front left_values
    (All-same P (front ++ left_values) (map segment_value all) (map-done_and_rest all done rest x e) stand))

-- segments have too many nodes if the first of them have
pub HaveManyNodes-first : (all done rest : List Segment) (x : Segment) → done ++ x ∷ rest ≡ all
    → HaveManyNodes (map segment_value done ++ segment_value x ∷ []) → HaveManyNodes (map segment_value all)
HaveManyNodes-first all done rest x e many =
    HaveManyNodes-append (map segment_value all) (map segment_value done ++ segment_value x ∷ [])
    (map segment_value rest) (map-done_and_rest all done rest x e) many
