-- The part joined from the segments of all parts.
use Rattle.std.proofs.Common.{inl, inr, ◌≡◌, ℕ, zero, suc, ◌<◌, ◌^◌, Bool, List, [], ◌∷◌, ◌++◌, length, map}
use Rattle.std.proofs.Common.{get_or, sum_by}
use Rattle.std.proofs.Common.{refl, ap, subst, sym, ◌∙◌, arith, Option, None, Some}
use Rattle.std.specs.Prelude.{◌⊎◌, All, Contains, IsPermutation}
use Rattle.std.proofs.lemmas.List.{flat_map_more, length-map, map_push}
use Rattle.std.proofs.lemmas.List.Elements.{All-append, All-cons, All-contains, All-head, All-map, All-nil, All-same}
use Rattle.std.proofs.lemmas.List.Elements.{All-tail, All-weaker, Contains-append_cases, Contains-append_left}
use Rattle.std.proofs.lemmas.List.Elements.{Contains-append_right, Contains-get_or}
use Rattle.std.proofs.lemmas.List.Sorted.{All-permutation, Contains-permutation, IsPermutation-map, IsPermutation-sym}
use Rattle.std.proofs.lemmas.List.Sorted.{sum_by-IsPermutation}
use Rattle.vme_trace.specs.declared.block.Block.{Block}
use Rattle.vme_part_format.specs.Bounds.{FitSegments, FitsPart, FitsSegment, FitsTable}
use Rattle.vme_part_format.specs.Sizes.{IsCompact, IsCompactPart}
use Rattle.vme_part_format.specs.Tables.{PartValue, SegmentValue, TableValue, last_of, part_value, segment_value}
use Rattle.vme_part_format.specs.declared.part.Part.{Part}
use Rattle.vme_part_format.specs.declared.segment.Segment.{Segment}
use Rattle.vme_part_tables.proofs.Fitting.{has_ways}
use Rattle.vme_parts.specs.Alike.{AllAlike, AreTooLong, HaveManyNodes, IsLike, SegmentsDifferAt, SomeHaveTooManySteps}
use Rattle.vme_parts.specs.Buddies.{IsTableOf}
use Rattle.vme_parts.specs.Files.{AllStand, IsPartOf, JoinsParts, SegmentsCover, SomeCovers}
use Rattle.vme_parts.specs.Files.{files_of}
use Rattle.vme_parts.specs.Gathering.{Gathered, IsSegment, segments_of}
use Rattle.vme_parts.specs.Stands.{SegmentStandsFor}
use Rattle.vme_parts.proofs.Gathering.{FitSegments-ascend}
use Rattle.vme_parts.proofs.ManyNodes.{HaveManyNodes-more}

-- if segments can be written together, each of them can be written
pub FitsSegment-each : (listing : Bool) (before : Option ℕ) (ss : List SegmentValue) → FitSegments listing before ss
    → All (FitsSegment listing) ss
FitsSegment-each listing before [] f = All-nil (FitsSegment listing)
FitsSegment-each listing before (s ∷ ss) f =
    All-cons (FitsSegment listing) s ss f.0 (FitsSegment-each listing (Some (last_of s.first s.order)) ss f.2)

-- r is a part whose segments are gathered from `all`, the segments of the parts ps, which can be written
module _ (ps : List PartValue) (r : PartValue) (all : List SegmentValue)
    (from : (s : SegmentValue) → Contains all s → (p : PartValue) × Contains ps p × Contains p.segments s)
    (into : (p : PartValue) (s : SegmentValue) → Contains ps p → Contains p.segments s → Contains all s)
    (listed : All (λ (p : PartValue). p.listing ≡ r.listing) ps) (fits : All FitsPart ps) (sum : r.backplane < 2 ^ 64)
    (few : length r.segments < 2 ^ 32) (g : Gathered all r.segments) where
  -- each segment of the parts can be written
  FitsSegment-of_parts : All (FitsSegment r.listing) all
  FitsSegment-of_parts k d h =
      let s = get_or all k d in
      let there = from s (Contains-get_or all k d h) in
      let p = there.0 in
      let part_fits = All-contains FitsPart ps p fits there.1 in
      let same = All-contains (λ (p : PartValue). p.listing ≡ r.listing) ps p listed there.1 in
      subst (λ l. FitsSegment l s) same
      (All-contains (FitsSegment p.listing) p.segments s (FitsSegment-each p.listing None p.segments part_fits.segments)
      there.2)

  -- if ps are parts of the recording of `files`, each of their segments stands for its files
  AllStand-of_parts : (files : List Block) → All (IsPartOf files) ps → AllStand r.listing files all
  AllStand-of_parts files parts k d h =
      let s = get_or all k d in
      let there = from s (Contains-get_or all k d h) in
      let p = there.0 in
      let is_part = All-contains (IsPartOf files) ps p parts there.1 in
      let same = All-contains (λ (p : PartValue). p.listing ≡ r.listing) ps p listed there.1 in
      subst (λ l. SegmentStandsFor l s (files_of files s)) same
      (All-contains (λ (s : SegmentValue). SegmentStandsFor p.listing s (files_of files s)) p.segments s is_part.stands
      there.2)

  -- what the segments cover, one of the parts covers
  SomeCovers-segments : (n : ℕ) → SegmentsCover all n → SomeCovers ps n
  SomeCovers-segments n c = let there = from c.0 c.1 in (there.0, there.1, (c.0, there.2, c.2))

  -- what one of the parts covers, the segments cover
  SegmentsCover-of_parts : (n : ℕ) → SomeCovers ps n → SegmentsCover all n
  SegmentsCover-of_parts n c = let segment = c.2 in (segment.0, into c.0 segment.0 c.1 segment.1, segment.2)

  -- r can be written
  pub FitsPart-joined : FitsPart r
  FitsPart-joined =
      record {
        backplane = sum;
        few = few;
        segments = FitSegments-ascend r.listing None r.segments g.order (g.fits r.listing FitsSegment-of_parts);
      }

  -- if the parts are compact, so are their segments
  IsCompact-of_parts : All IsCompactPart ps → All IsCompact all
  IsCompact-of_parts parts k d h =
      let s = get_or all k d in
      let there = from s (Contains-get_or all k d h) in
      All-contains IsCompact there.0.segments s (All-contains IsCompactPart ps there.0 parts there.1) there.2

  -- if the parts are compact, so is r
  pub IsCompactPart-joined : All IsCompactPart ps → IsCompactPart r
  IsCompactPart-joined parts = g.compact (IsCompact-of_parts parts)

  -- r joins the parts ps
  pub JoinsParts-joined : JoinsParts ps r
  JoinsParts-joined files are parts = (
    record {
      fits = FitsPart-joined;
      stands = g.stand r.listing files (AllStand-of_parts files parts);
    },
    λ n. (λ c. SomeCovers-segments n ((g.covers n).0 c), λ c. (g.covers n).1 (SegmentsCover-of_parts n c)),
  )

-- a table that can be written is one of as many memories
IsTableOf-fits : (listing : Bool) (memories steps : ℕ) (t : TableValue) → FitsTable listing memories steps t
    → IsTableOf memories t
IsTableOf-fits listing memories steps t f =
    record { ways = has_ways listing memories steps t f; counted = f.as_many }

-- a segment that can be written satisfies `IsSegment`
pub IsSegment-fits : (listing : Bool) (s : SegmentValue) → FitsSegment listing s → IsSegment s
IsSegment-fits listing s f =
    record {
      numbers = f.numbers;
      tables = record {
        known = IsTableOf-fits listing 4 s.steps s.known f.known;
        handshake = IsTableOf-fits listing 147 s.steps s.handshake f.handshake;
        stability = IsTableOf-fits listing 13 s.steps s.stability f.stability;
        grant = IsTableOf-fits listing 35 s.steps s.grant f.grant;
        acknowledge = IsTableOf-fits listing 11 s.steps s.acknowledge f.acknowledge;
      };
    }

-- the segments of a part that can be written satisfy `IsSegment`
pub IsSegment-of_part : (p : PartValue) → FitsPart p → All IsSegment p.segments
IsSegment-of_part p f =
    All-weaker (FitsSegment p.listing) IsSegment (IsSegment-fits p.listing) p.segments
    (FitsSegment-each p.listing None p.segments f.segments)

-- the segments of one part more
pub segments_of-push : (ps : List Part) (p : Part) → segments_of (map part_value ps)
    ++ map segment_value p.segments.items
    ≡ segments_of (map part_value (ps ++ p ∷ []))
segments_of-push ps p =
    flat_map_more (λ (q : PartValue). q.segments) [] (map part_value ps) (part_value p)
    ∙ ap segments_of (sym (map_push part_value ps p))

-- a segment of `segments_of` is one of some part
Contains-of_part : (ps : List PartValue) (s : SegmentValue) → Contains (segments_of ps) s
    → (p : PartValue) × Contains ps p × Contains p.segments s
Contains-of_part [] s c = absurd (omega (arith, c.1))
Contains-of_part (p ∷ ps) s c = by_place (Contains-append_cases p.segments (segments_of ps) s c) (Contains-of_part ps s)
  where
    by_place : (Contains p.segments s ⊎ Contains (segments_of ps) s)
        → (Contains (segments_of ps) s → (q : PartValue) × Contains ps q × Contains q.segments s)
        → (q : PartValue) × Contains (p ∷ ps) q × Contains q.segments s
    by_place (inl h) rest = (p, (0, omega arith, refl), h)
    by_place (inr h) rest =
        let there = rest h in
        (there.0, Contains-append_right (p ∷ []) ps there.0 there.1, there.2)

-- a segment of one of the parts is one of `segments_of`
Contains-segments_of : (ps : List PartValue) (p : PartValue) (s : SegmentValue) → Contains ps p → Contains p.segments s
    → Contains (segments_of ps) s
Contains-segments_of [] p s c h = absurd (omega (arith, c.1))
Contains-segments_of (q ∷ qs) p s c h = by_place (λ d. Contains-segments_of qs p s d h) c.0 c.1 c.2
  where
    by_place : (Contains qs p → Contains (segments_of qs) s) → (k : ℕ) → k < length (q ∷ qs) → get_or (q ∷ qs) k p ≡ p
        → Contains (segments_of (q ∷ qs)) s
    by_place more zero i e =
        Contains-append_left q.segments (segments_of qs) s
        (subst (λ (x : PartValue). Contains x.segments s) (sym e) h)
    by_place more (suc k) i e =
        Contains-append_right q.segments (segments_of qs) s (more (k, omega (arith, i), e))

-- if the parts can be written, all of their segments satisfy `IsSegment`
IsSegment-segments_of : (ps : List PartValue) → All FitsPart ps → All IsSegment (segments_of ps)
IsSegment-segments_of [] fits = All-nil IsSegment
IsSegment-segments_of (p ∷ ps) fits =
    let first_fits = All-head FitsPart p ps fits in
    All-append IsSegment p.segments (segments_of ps)
    (All-weaker (FitsSegment p.listing) IsSegment (IsSegment-fits p.listing) p.segments
    (FitsSegment-each p.listing None p.segments first_fits.segments))
    (IsSegment-segments_of ps (All-tail FitsPart p ps fits))

-- the segments of the parts, sorted: `made` are those of `parts`, and `sorted` are these in another order
module _ (parts : List Part) (made sorted : List Segment)
    (e : map segment_value made ≡ segments_of (map part_value parts)) (same : IsPermutation made sorted) where
  -- the parts as values
  abbrev ps : List PartValue
  ps = map part_value parts

  -- the sorted segments as values
  abbrev ordered : List SegmentValue
  ordered = map segment_value sorted

  -- as values, too, the sorted segments are the others in another order
  same_values : IsPermutation (map segment_value made) ordered
  same_values = IsPermutation-map segment_value made sorted same

  -- a segment of the parts is one of those sorted
  Contains-sorted : (s : SegmentValue) → Contains (segments_of ps) s → Contains ordered s
  Contains-sorted s c =
      Contains-permutation (map segment_value made) ordered s same_values
      (subst (λ (ss : List SegmentValue). Contains ss s) (sym e) c)

  -- a segment of those sorted is one of the parts
  Contains-unsorted : (s : SegmentValue) → Contains ordered s → Contains (segments_of ps) s
  Contains-unsorted s c =
      subst (λ (ss : List SegmentValue). Contains ss s) e
      (Contains-permutation ordered (map segment_value made) s
      (IsPermutation-sym (map segment_value made) ordered same_values) c)

  -- if of the sorted segments those of the same files agree, they do so in the parts
  pub AllAlike-unsorted : AllAlike ordered → AllAlike (segments_of ps)
  AllAlike-unsorted alike = λ s t p q h. alike s t (Contains-sorted s p) (Contains-sorted t q) h

  -- if ps are parts of the recording of `files`, each of the sorted segments stands for its files
  AllStand-sorted : (listing : Bool) → All (λ (p : PartValue). p.listing ≡ listing) ps → (files : List Block)
      → All (IsPartOf files) ps → AllStand listing files ordered
  AllStand-sorted listing listed files are_parts k d h =
      let s = get_or ordered k d in
      let there = Contains-of_part ps s (Contains-unsorted s (Contains-get_or ordered k d h)) in
      let p = there.0 in
      let is_part = All-contains (IsPartOf files) ps p are_parts there.1 in
      let like = All-contains (λ (p : PartValue). p.listing ≡ listing) ps p listed there.1 in
      subst (λ l. SegmentStandsFor l s (files_of files s)) like
      (All-contains (λ (s : SegmentValue). SegmentStandsFor p.listing s (files_of files s)) p.segments s is_part.stands
      there.2)

  -- if the sorted segments are too long, some of the files that the parts are of have too many steps
  pub SomeHaveTooManySteps-sorted : (listing : Bool) → All (λ (p : PartValue). p.listing ≡ listing) ps
      → AreTooLong ordered
      → (files : List Block) → All (IsPartOf files) ps → SomeHaveTooManySteps files
  SomeHaveTooManySteps-sorted listing listed long files are_parts =
      long listing files (AllStand-sorted listing listed files are_parts)

  -- the numbers of the sorted segments are those of the parts' segments, all together
  sum_by-unsorted : (f : SegmentValue → ℕ) → sum_by f ordered ≡ sum_by f (segments_of ps)
  sum_by-unsorted f = sum_by-IsPermutation f (map segment_value made) ordered same_values ∙ ap (sum_by f) e

  -- if the sorted segments have too many nodes, so have those of the parts
  pub HaveManyNodes-unsorted : HaveManyNodes ordered → HaveManyNodes (segments_of ps)
  HaveManyNodes-unsorted many =
      HaveManyNodes-more (segments_of ps) ordered (λ f joined. omega (arith, sum_by-unsorted f)) many

  -- what holds of all segments of the parts holds of all those sorted
  All-sorted : (P : SegmentValue → Type 0) → All P (segments_of ps) → All P ordered
  All-sorted P all =
      All-permutation P (map segment_value made) ordered same_values
      (All-same P (map segment_value made) (segments_of ps) e all)

  -- if the parts can be written, all of their sorted segments satisfy `IsSegment`
  pub IsSegment-sorted : All (λ (p : Part). FitsPart (part_value p)) parts → All IsSegment ordered
  IsSegment-sorted fits = All-sorted IsSegment (IsSegment-segments_of ps (All-map FitsPart part_value parts fits))

  -- what the segments of the parts cover, the sorted ones cover
  SegmentsCover-sorted : (n : ℕ) → SegmentsCover (segments_of ps) n → SegmentsCover ordered n
  SegmentsCover-sorted n c = (c.0, Contains-sorted c.0 c.1, c.2)

  -- what the sorted segments cover, those of the parts cover
  SegmentsCover-unsorted : (n : ℕ) → SegmentsCover ordered n → SegmentsCover (segments_of ps) n
  SegmentsCover-unsorted n c = (c.0, Contains-unsorted c.0 c.1, c.2)

  -- segments that are gathered from the sorted ones are gathered from those of the parts
  pub Gathered-unsorted : (ss : List SegmentValue) → Gathered ordered ss → Gathered (segments_of ps) ss
  Gathered-unsorted ss g =
      record {
        order = g.order;
        covers = λ n. (
          λ c. SegmentsCover-unsorted n ((g.covers n).0 c),
          λ c. (g.covers n).1 (SegmentsCover-sorted n c),
        );
        stand = λ listing files all.
            g.stand listing files
            (All-sorted (λ (s : SegmentValue). SegmentStandsFor listing s (files_of files s)) all);
        fits = λ listing all. g.fits listing (All-sorted (FitsSegment listing) all);
        compact = λ all. g.compact (All-sorted IsCompact all);
        few = λ f joined. omega (arith, g.few f joined, sum_by-unsorted f);
      }

  -- if two of the sorted segments of the same files differ, they do so in the parts
  pub SegmentsDifferAt-unsorted : (number : ℕ) → SegmentsDifferAt ordered number
      → SegmentsDifferAt (segments_of ps) number
  SegmentsDifferAt-unsorted number a =
      record {
        one = a.one;
        other = a.other;
        one_there = Contains-unsorted a.one a.one_there;
        other_there = Contains-unsorted a.other a.other_there;
        numbered = a.numbered;
        same_files = a.same_files;
        differ = a.differ;
      }

  -- the part that is joined of the segments that are gathered from those sorted
  module _ (segments : List Segment) (backplane : ℕ) (listing : Bool) (like : All (IsLike backplane listing) ps)
      (fits : All (λ (p : Part). FitsPart (part_value p)) parts) (sum : backplane < 2 ^ 64)
      (few : length segments < 2 ^ 32) (g : Gathered ordered (map segment_value segments)) where
    -- the joined part
    abbrev joined : PartValue
    joined = record { backplane = backplane; listing = listing; segments = map segment_value segments }

    -- the parts' listing is that of the joined part
    listed : All (λ (p : PartValue). p.listing ≡ listing) ps
    listed = All-weaker (IsLike backplane listing) (λ (p : PartValue). p.listing ≡ listing) (λ p both. both.1) ps like

    -- the parts can be written
    parts_fit : All FitsPart ps
    parts_fit = All-map FitsPart part_value parts fits

    -- as values, too, the gathered segments are few
    few_values : length (map segment_value segments) < 2 ^ 32
    few_values = omega (arith, few, length-map segments segment_value)

    -- a segment of those sorted is one of some part
    Contains-sorted_of_part : (s : SegmentValue) → Contains ordered s → (p : PartValue) × Contains ps p
        × Contains p.segments s
    Contains-sorted_of_part s c = Contains-of_part ps s (Contains-unsorted s c)

    -- a segment of one of the parts is one of those sorted
    Contains-part_in_sorted : (p : PartValue) (s : SegmentValue) → Contains ps p → Contains p.segments s
        → Contains ordered s
    Contains-part_in_sorted p s c h = Contains-sorted s (Contains-segments_of ps p s c h)

    -- it joins the parts
    pub JoinsParts-sorted : JoinsParts ps joined
    JoinsParts-sorted = JoinsParts-joined ps joined ordered Contains-sorted_of_part Contains-part_in_sorted listed
        parts_fit sum few_values g

    -- it can be written
    pub FitsPart-sorted : FitsPart joined
    FitsPart-sorted = FitsPart-joined ps joined ordered Contains-sorted_of_part Contains-part_in_sorted listed parts_fit
        sum few_values g

    -- if the parts are compact, so is it
    pub IsCompactPart-sorted : All IsCompactPart ps → IsCompactPart joined
    IsCompactPart-sorted = IsCompactPart-joined ps joined ordered Contains-sorted_of_part Contains-part_in_sorted listed
        parts_fit sum few_values g
