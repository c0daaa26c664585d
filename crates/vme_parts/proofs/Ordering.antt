-- The order in which segments are added, and the last segment of a list.
use Rattle.std.proofs.Common.{inl, inr, ◌≡◌, ℕ, suc, ◌-◌, ◌<◌, ◌≤◌, List, [], ◌∷◌, ◌++◌, length, map, get_or}
use Rattle.std.proofs.Common.{drop, take}
use Rattle.std.proofs.Common.{refl, ap, sym, ◌∙◌, arith, Option, Some, None, subst}
use Rattle.std.specs.Prelude.{◌⊎◌, All, Contains, IfSome, slice_get}
use Rattle.std.specs.List.{last_or}
use Rattle.std.specs.List.Sorted.{IsNonDecreasingBy}
use Rattle.std.specs.Option.{option_map}
use Rattle.std.proofs.lemmas.Bool.{cases_order}
use Rattle.std.proofs.Math.Seq.{drop-append_seam}
use Rattle.std.proofs.lemmas.List.{drop-map, get_or-map, length-map, take_all}
use Rattle.std.proofs.lemmas.List.Elements.{All-contains, All-drop, All-map, All-same, All-tail}
use Rattle.std.proofs.lemmas.List.Sorted.{IsNonDecreasingBy-drop}
use Rattle.std.proofs.lemmas.Option.{get_or_from_slice_get, slice_get-map, slice_get_within}
use Rattle.vme_trace.proofs.ListLaws.{last_or-slice_get}
use Rattle.vme_summary.proofs.Times.{last_or-append}
use Rattle.vme_part_format.specs.Tables.{SegmentValue, last_of, segment_value}
use Rattle.vme_part_format.specs.declared.segment.Segment.{Segment}
use Rattle.vme_parts.specs.Gathering.{Ascend, BeginsInLast, Gathered, IsSegment, Precedes, order_key}
use Rattle.vme_parts.proofs.Gathering.{Gathered-push, Gathered-within}
use Rattle.vme_parts.proofs.Nesting.{lies_within}

-- a segment precedes another if its key isn't greater
pub Precedes-by_key : (s t : SegmentValue) → s.order < 63 → t.order < 63 → order_key s ≤ order_key t → Precedes s t
Precedes-by_key s t p q h = by_cases (cases_order s.first t.first)
  where
    by_cases : ((s.first ≡ t.first) ⊎ ((s.first < t.first) ⊎ (t.first < s.first))) → Precedes s t
    by_cases (inl e) = inr (e, omega (arith, e, p, q, h))
    by_cases (inr (inl k)) = inl k
    by_cases (inr (inr k)) = absurd (omega (arith, k, p, q, h))

-- if s precedes t, and t precedes u, then s precedes u
pub Precedes-transitive : (s t u : SegmentValue) → Precedes s t → Precedes t u → Precedes s u
Precedes-transitive s t u (inl a) (inl b) = inl (omega (arith, a, b))
Precedes-transitive s t u (inl a) (inr b) = inl (omega (arith, a, b.0))
Precedes-transitive s t u (inr a) (inl b) = inl (omega (arith, a.0, b))
Precedes-transitive s t u (inr a) (inr b) = inr (a.0 ∙ b.0, omega (arith, a.1, b.1))

-- a segment precedes itself
pub Precedes-reflexive : (s : SegmentValue) → Precedes s s
Precedes-reflexive s = inr (refl, omega arith)

-- the item with the last index is the last segment
pub last_or-last_item : (xs : List Segment) (x : Segment) → slice_get xs (length xs - 1) ≡ Some x
    → last_or None (map segment_value xs) ≡ Some (segment_value x)
last_or-last_item xs x e =
    last_or-slice_get (map segment_value xs)
    ∙ (ap (λ n. slice_get (map segment_value xs) (n - 1)) (length-map xs segment_value)
    ∙ (slice_get-map segment_value xs (length xs - 1) ∙ ap (option_map segment_value) e))

-- if there is no item with the last index, there is no last segment
pub last_or-no_last_item : (xs : List Segment) → slice_get xs (length xs - 1) ≡ None
    → last_or None (map segment_value xs) ≡ None
last_or-no_last_item xs e =
    last_or-slice_get (map segment_value xs)
    ∙ (ap (λ n. slice_get (map segment_value xs) (n - 1)) (length-map xs segment_value)
    ∙ (slice_get-map segment_value xs (length xs - 1) ∙ ap (option_map segment_value) e))

-- the last segment of ss ++ s ∷ [] is s
pub last_or-push : (ss : List SegmentValue) (s : SegmentValue) → last_or None (ss ++ s ∷ []) ≡ Some s
last_or-push ss s = last_or-append None ss (s ∷ [])

-- segments contain the last of them
pub Contains-last : (ss : List SegmentValue) (s : SegmentValue) → last_or None ss ≡ Some s → Contains ss s
Contains-last ss s e =
    let at : slice_get ss (length ss - 1) ≡ Some s = sym (last_or-slice_get ss) ∙ e in
    (length ss - 1, slice_get_within ss (length ss - 1) s at, get_or_from_slice_get ss (length ss - 1) s s at)

-- the item with the last index satisfies `IsSegment` if all do
pub IsSegment-last_item : (xs : List Segment) (x : Segment) → slice_get xs (length xs - 1) ≡ Some x
    → All IsSegment (map segment_value xs) → IsSegment (segment_value x)
IsSegment-last_item xs x e all =
    All-contains IsSegment (map segment_value xs) (segment_value x) all
    (Contains-last (map segment_value xs) (segment_value x) (last_or-last_item xs x e))

-- if s begins with a file of the last item x, or before it, `BeginsInLast` holds
pub BeginsInLast-last_item : (xs : List Segment) (x : Segment) (s : SegmentValue) → slice_get xs (length xs - 1)
    ≡ Some x
    → s.first ≤ last_of x.first x.order → BeginsInLast (map segment_value xs) s
BeginsInLast-last_item xs x s e h = record { last = segment_value x; there = last_or-last_item xs x e; within = h }

-- if s begins after the last file of the last item x, it begins after the last segment
pub begins_after-last_item : (xs : List Segment) (x : Segment) (s : SegmentValue) → slice_get xs (length xs - 1)
    ≡ Some x
    → last_of x.first x.order < s.first
    → IfSome (last_or None (map segment_value xs)) (λ last. last_of last.first last.order < s.first)
begins_after-last_item xs x s e h =
    subst (λ (o : Option SegmentValue). IfSome o (λ last. last_of last.first last.order < s.first))
    (sym (last_or-last_item xs x e)) h

-- where there are no segments, s begins after the last of them
pub begins_after-no_segments : (xs : List Segment) (s : SegmentValue) → slice_get xs (length xs - 1) ≡ None
    → IfSome (last_or None (map segment_value xs)) (λ last. last_of last.first last.order < s.first)
begins_after-no_segments xs s e =
    subst (λ (o : Option SegmentValue). IfSome o (λ last. last_of last.first last.order < s.first))
    (sym (last_or-no_last_item xs e)) tt

-- if s begins after the last of ss, then ss and s ascend
Ascend-push : (before : Option SegmentValue) (ss : List SegmentValue) (s : SegmentValue)
    → Ascend (option_map (λ (b : SegmentValue). last_of b.first b.order) before) ss
    → IfSome (last_or before ss) (λ last. last_of last.first last.order < s.first)
    → Ascend (option_map (λ (b : SegmentValue). last_of b.first b.order) before) (ss ++ s ∷ [])
Ascend-push None [] s a h = (tt, tt)
Ascend-push (Some b) [] s a h = (h, tt)
Ascend-push before (x ∷ xs) s a h = (a.0, Ascend-push (Some x) xs s a.1 h)

-- `Gathered` holds with one more segment at the end of both, if it begins after the last of ss
pub Gathered-after_last : (done ss : List SegmentValue) (s : SegmentValue)
    → IfSome (last_or None ss) (λ last. last_of last.first last.order < s.first) → Gathered done ss
    → Gathered (done ++ s ∷ []) (ss ++ s ∷ [])
Gathered-after_last done ss s h g = Gathered-push done ss s g (Ascend-push None ss s g.order h)

-- a segment that begins in the last one, which precedes it, lies within it, so `Gathered` holds without it
pub Gathered-in_last : (done ss : List SegmentValue) (s : SegmentValue) → BeginsInLast ss s → All IsSegment ss
    → IsSegment s → IfSome (last_or None ss) (λ last. Precedes last s) → Gathered done ss
    → Gathered (done ++ s ∷ []) ss
Gathered-in_last done ss s b all p order g =
    let there = Contains-last ss b.last b.there in
    let q = All-contains IsSegment ss b.last all there in
    let before : Precedes b.last s = subst
    (λ (o : Option SegmentValue). IfSome o (λ last. Precedes last s)) b.there order in
    Gathered-within done ss s b.last g there (lies_within b.last s q.numbers p.numbers before b.within)

-- a segment of a list satisfies `IsSegment` if all do
pub IsSegment-item : (xs : List Segment) (k : ℕ) (d : Segment) → k < length xs → All IsSegment (map segment_value xs)
    → IsSegment (segment_value (get_or xs k d))
IsSegment-item xs k d h all =
    subst IsSegment (get_or-map segment_value xs k d (segment_value d) h)
    (all k (segment_value d) (omega (arith, h, length-map xs segment_value)))

-- the segment x with the index i satisfies `IsSegment` if all do
pub IsSegment-item_at : (xs : List Segment) (i : ℕ) (x : Segment) → i < length xs → x ≡ get_or xs i x
    → All IsSegment (map segment_value xs) → IsSegment (segment_value x)
IsSegment-item_at xs i x h e all = subst (λ (s : Segment). IsSegment (segment_value s)) (sym e)
    (IsSegment-item xs i x h all)

-- the first of sorted segments precedes all others
Precedes-head_of_sorted : (x : Segment) (xs : List Segment) → All IsSegment (map segment_value (x ∷ xs))
    → IsNonDecreasingBy (λ (s : Segment). order_key (segment_value s)) (x ∷ xs)
    → All (Precedes (segment_value x)) (map segment_value xs)
Precedes-head_of_sorted x xs all sorted =
    let first_is_segment = IsSegment-item (x ∷ xs) 0 x (omega arith) all in
    let others = All-tail IsSegment (segment_value x) (map segment_value xs) all in
    All-map (Precedes (segment_value x)) segment_value xs
    (λ k d h.
    let there = IsSegment-item xs k d h others in
    Precedes-by_key (segment_value x) (segment_value (get_or xs k d)) first_is_segment.numbers.few there.numbers.few
    (sorted 0 (suc k) d (omega arith) (omega (arith, h))))

-- the segment x after the first sorted segments, `done`, satisfies `IsSegment` and precedes those after it
pub Precedes-next_of_sorted : (all done rest : List Segment) (x : Segment) → done ++ x ∷ rest ≡ all
    → All IsSegment (map segment_value all) → IsNonDecreasingBy (λ (s : Segment). order_key (segment_value s)) all
    → IsSegment (segment_value x) × All (Precedes (segment_value x)) (map segment_value rest)
Precedes-next_of_sorted all done rest x e every sorted =
    let left : drop (length done) all ≡ x ∷ rest = ap (drop (length done)) (sym e) ∙ drop-append_seam done (x ∷ rest) in
    let left_are_segments : All IsSegment (map segment_value (x ∷ rest)) =
    All-same IsSegment (map segment_value (x ∷ rest)) (drop (length done) (map segment_value all))
    (sym (drop-map segment_value (length done) all ∙ ap (map segment_value) left))
    (All-drop IsSegment (length done) (map segment_value all) every) in
    let left_sorted : IsNonDecreasingBy (λ (s : Segment). order_key (segment_value s)) (x ∷ rest) =
    subst (IsNonDecreasingBy (λ (s : Segment). order_key (segment_value s))) left
    (IsNonDecreasingBy-drop (λ (s : Segment). order_key (segment_value s)) (length done) all sorted) in (
      IsSegment-item (x ∷ rest) 0 x (omega arith) left_are_segments,
      Precedes-head_of_sorted x rest left_are_segments
          left_sorted,
    )

-- if the last segment precedes s, and s precedes all of ss, then the last precedes all of ss
pub Precedes-last_and_all : (o : Option SegmentValue) (s : SegmentValue) (ss : List SegmentValue)
    → IfSome o (λ last. Precedes last s) → All (Precedes s) ss → IfSome o (λ last. All (Precedes last) ss)
Precedes-last_and_all None s ss h all = tt
Precedes-last_and_all (Some last) s ss h all = λ k d i. Precedes-transitive last s (get_or ss k d) h (all k d i)

-- if the last segment precedes all of s ∷ ss, it precedes s
pub Precedes-last_and_head : (o : Option SegmentValue) (s : SegmentValue) (ss : List SegmentValue)
    → IfSome o (λ last. All (Precedes last) (s ∷ ss)) → IfSome o (λ last. Precedes last s)
Precedes-last_and_head None s ss h = tt
Precedes-last_and_head (Some last) s ss h = h 0 s (omega arith)

-- all but the first segment of x ∷ xs are xs
take-all_but_first : (x : Segment) (xs : List Segment) → take (length (x ∷ xs) - 1) (drop 1 (x ∷ xs)) ≡ xs
take-all_but_first x xs =
    let e : length (x ∷ xs) - 1 ≡ length xs = omega arith in
    ap (λ n. take n xs) e ∙ take_all (length xs) xs (omega arith)

-- all but the first segment satisfy `IsSegment` if all do
pub IsSegment-rest : (xs : List Segment) → All IsSegment (map segment_value xs)
    → All IsSegment (map segment_value (take (length xs - 1) (drop 1 xs)))
IsSegment-rest [] all = λ k d h. absurd (omega arith)
IsSegment-rest (x ∷ xs) all =
    subst (λ (ys : List Segment). All IsSegment (map segment_value ys)) (sym (take-all_but_first x xs))
    (All-tail IsSegment (segment_value x) (map segment_value xs) all)

-- the first segment and all others are the whole list
pub map-first_and_rest : (xs : List Segment) (x : Segment) → 0 < length xs → x ≡ get_or xs 0 x
    → segment_value x ∷ map segment_value (take (length xs - 1) (drop 1 xs)) ≡ map segment_value xs
map-first_and_rest [] x h e = absurd (omega arith)
map-first_and_rest (y ∷ ys) x h e =
    ap (λ (z : Segment). segment_value z ∷ map segment_value (take (length (y ∷ ys) - 1) (drop 1 (y ∷ ys)))) e
    ∙ ap (λ (zs : List Segment). segment_value y ∷ map segment_value zs) (take-all_but_first y ys)
