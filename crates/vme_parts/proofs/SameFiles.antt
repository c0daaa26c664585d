-- Segments of the same files that agree.
use Rattle.std.proofs.Common.{inl, inr, ◌≡◌, ℕ, zero, suc, ◌+◌, ◌-◌, ◌<◌, ◌≤◌, List, [], ◌∷◌, length, map}
use Rattle.std.proofs.Common.{get_or, refl, ap, sym, subst, ◌∙◌, arith}
use Rattle.std.specs.Prelude.{◌⊎◌, All, Contains}
use Rattle.std.specs.List.Sorted.{IsNonDecreasingBy}
use Rattle.std.proofs.lemmas.Bool.{cases_order}
use Rattle.std.proofs.lemmas.List.{get_or-map, length-map}
use Rattle.vme_part_format.specs.Tables.{SegmentValue, TableValue, segment_value}
use Rattle.vme_part_format.specs.declared.segment.Segment.{Segment}
use Rattle.vme_parts.specs.Alike.{AllAlike, AreAlike, AreTablesAlike, HaveSameFiles, SegmentsDifferAt}
use Rattle.vme_parts.specs.Gathering.{IsSegment, Precedes, order_key}
use Rattle.vme_parts.proofs.Ordering.{Precedes-by_key, IsSegment-item}

-- an element within a list doesn't depend on the default
get_or-any_default : (xs : List Segment) (i : ℕ) (d e : Segment) → i < length xs → get_or xs i d ≡ get_or xs i e
get_or-any_default [] i d e h = absurd (omega (arith, h))
get_or-any_default (x ∷ xs) zero d e h = refl
get_or-any_default (x ∷ xs) (suc i) d e h = get_or-any_default xs i d e (omega (arith, h))

-- ---- outcomes that agree

-- a table agrees with itself
AreTablesAlike-reflexive : (t : TableValue) → AreTablesAlike t t
AreTablesAlike-reflexive t = record { as_many = refl; leaving = λ k h. refl; first_break = λ k h. refl }

-- if t agrees with u, then u agrees with t
AreTablesAlike-symmetric : (t u : TableValue) → AreTablesAlike t u → AreTablesAlike u t
AreTablesAlike-symmetric t u a =
    record {
      as_many = sym a.as_many;
      leaving = λ k h. sym (a.leaving k (omega (arith, h, a.as_many)));
      first_break = λ k h. sym (a.first_break k (omega (arith, h, a.as_many)));
    }

-- if t agrees with u, and u with v, then t agrees with v
AreTablesAlike-transitive : (t u v : TableValue) → AreTablesAlike t u → AreTablesAlike u v → AreTablesAlike t v
AreTablesAlike-transitive t u v a b =
    record {
      as_many = b.as_many ∙ a.as_many;
      leaving = λ k h. a.leaving k h ∙ b.leaving k (omega (arith, h, a.as_many));
      first_break = λ k h. a.first_break k h ∙ b.first_break k (omega (arith, h, a.as_many));
    }

-- a segment agrees with itself
AreAlike-reflexive : (s : SegmentValue) → AreAlike s s
AreAlike-reflexive s =
    record {
      steps = refl;
      opening = refl;
      left = refl;
      times = refl;
      known = AreTablesAlike-reflexive s.known;
      handshake = AreTablesAlike-reflexive s.handshake;
      stability = AreTablesAlike-reflexive s.stability;
      grant = AreTablesAlike-reflexive s.grant;
      acknowledge = AreTablesAlike-reflexive s.acknowledge;
    }

-- if s agrees with t, then t agrees with s
AreAlike-symmetric : (s t : SegmentValue) → AreAlike s t → AreAlike t s
AreAlike-symmetric s t a =
    record {
      steps = sym a.steps;
      opening = sym a.opening;
      left = sym a.left;
      times = sym a.times;
      known = AreTablesAlike-symmetric s.known t.known a.known;
      handshake = AreTablesAlike-symmetric s.handshake t.handshake a.handshake;
      stability = AreTablesAlike-symmetric s.stability t.stability a.stability;
      grant = AreTablesAlike-symmetric s.grant t.grant a.grant;
      acknowledge = AreTablesAlike-symmetric s.acknowledge t.acknowledge a.acknowledge;
    }

-- if s agrees with t, and t with u, then s agrees with u
AreAlike-transitive : (s t u : SegmentValue) → AreAlike s t → AreAlike t u → AreAlike s u
AreAlike-transitive s t u a b =
    record {
      steps = a.steps ∙ b.steps;
      opening = a.opening ∙ b.opening;
      left = a.left ∙ b.left;
      times = a.times ∙ b.times;
      known = AreTablesAlike-transitive s.known t.known u.known a.known b.known;
      handshake = AreTablesAlike-transitive s.handshake t.handshake u.handshake a.handshake b.handshake;
      stability = AreTablesAlike-transitive s.stability t.stability u.stability a.stability b.stability;
      grant = AreTablesAlike-transitive s.grant t.grant u.grant a.grant b.grant;
      acknowledge = AreTablesAlike-transitive s.acknowledge t.acknowledge u.acknowledge a.acknowledge b.acknowledge;
    }

-- ---- in order

-- in order, a segment between two of the same files is of these files too
HaveSameFiles-between : (s t u : SegmentValue) → Precedes s t → Precedes t u → HaveSameFiles s u → HaveSameFiles s t
HaveSameFiles-between s t u (inl a) (inl b) same = absurd (omega (arith, a, b, same.0))
HaveSameFiles-between s t u (inl a) (inr b) same = absurd (omega (arith, a, b.0, same.0))
HaveSameFiles-between s t u (inr a) (inl b) same = absurd (omega (arith, a.0, b, same.0))
HaveSameFiles-between s t u (inr a) (inr b) same = (a.0, omega (arith, a.1, b.1, same.1))

-- of the first n segments, neighbours of the same files agree
abbrev pub NextAlike : List Segment → ℕ → Type 0
NextAlike xs n =
    (i : ℕ) (d : Segment) → i + 1 < n
    → HaveSameFiles (segment_value (get_or xs i d)) (segment_value (get_or xs (i + 1) d))
    → AreAlike (segment_value (get_or xs i d)) (segment_value (get_or xs (i + 1) d))

-- if neighbours among the first n segments agree, and so do the segments n - 1 and n, then neighbours among the first n
-- + 1 agree
pub NextAlike-next : (xs : List Segment) (n : ℕ) (a b : Segment) → 0 < n → n < length xs → a ≡ get_or xs (n - 1) a
    → b ≡ get_or xs n b
    → (HaveSameFiles (segment_value a) (segment_value b) → AreAlike (segment_value a) (segment_value b))
    → NextAlike xs n → NextAlike xs (n + 1)
NextAlike-next xs n a b some h is-a is-b one was i d lt same = by_order (cases_order (i + 1) n)
  where
    at_first : i + 1 ≡ n → get_or xs i d ≡ a
    at_first e =
        let to : n - 1 ≡ i = omega (arith, e) in
        get_or-any_default xs i d a (omega (arith, e, h)) ∙ sym (is-a ∙ ap (λ k. get_or xs k a) to)

    at_second : i + 1 ≡ n → get_or xs (i + 1) d ≡ b
    at_second e =
        get_or-any_default xs (i + 1) d b (omega (arith, e, h)) ∙ sym (is-b ∙ ap (λ k. get_or xs k b) (sym e))

    by_order : ((i + 1 ≡ n) ⊎ ((i + 1 < n) ⊎ (n < i + 1)))
        → AreAlike (segment_value (get_or xs i d)) (segment_value (get_or xs (i + 1) d))
    by_order (inl e) =
        rw (at_first e, at_second e) (one (rw (at_first e, at_second e) at same))
    by_order (inr (inl below)) = was i d below same
    by_order (inr (inr above)) = absurd (omega (arith, above, lt))

-- sorted segments, of which neighbours of the same files agree
module _ (xs : List Segment) (all : All IsSegment (map segment_value xs))
    (sorted : IsNonDecreasingBy (λ (s : Segment). order_key (segment_value s)) xs)
    (next : NextAlike xs (length xs)) where
  -- the segment with the index k, as a value
  abbrev value_at : ℕ → Segment → SegmentValue
  value_at k d = segment_value (get_or xs k d)

  -- a segment precedes itself and those after it
  Precedes-in_order : (i j : ℕ) (d : Segment) → i ≤ j → j < length xs → Precedes (value_at i d) (value_at j d)
  Precedes-in_order i j d le h =
      let p = IsSegment-item xs i d (omega (arith, le, h)) all in
      let q = IsSegment-item xs j d h all in
      Precedes-by_key (value_at i d) (value_at j d) p.numbers.few q.numbers.few (sorted i j d le h)

  -- segments of the same files agree if they are n places apart
  AreAlike-apart_by : (n i : ℕ) (d : Segment) → i + n < length xs → HaveSameFiles (value_at i d) (value_at (i + n) d)
      → AreAlike (value_at i d) (value_at (i + n) d)
  AreAlike-apart_by zero i d h same =
      let e : i + 0 ≡ i = omega arith in
      subst (λ k. AreAlike (value_at i d) (value_at k d)) (sym e) (AreAlike-reflexive (value_at i d))
  AreAlike-apart_by (suc n) i d h same =
      let e : i + suc n ≡ (i + n) + 1 = omega arith in
      let files : HaveSameFiles (value_at i d) (value_at ((i + n) + 1) d)
      = subst (λ k. HaveSameFiles (value_at i d) (value_at k d)) e same in
      let mid = HaveSameFiles-between (value_at i d) (value_at (i + n) d) (value_at ((i + n) + 1) d)
      (Precedes-in_order i (i + n) d (omega arith)
      (omega (arith, h))) (Precedes-in_order (i + n) ((i + n) + 1) d (omega arith) (omega (arith, h))) files in
      subst (λ k. AreAlike (value_at i d) (value_at k d)) (sym e)
      (AreAlike-transitive (value_at i d) (value_at (i + n) d) (value_at ((i + n) + 1) d)
      (AreAlike-apart_by n i d (omega (arith, h)) mid)
      (next (i + n) d (omega (arith, h)) (sym mid.0 ∙ files.0, sym mid.1 ∙ files.1)))

  -- a segment agrees with itself and those of the same files after it
  AreAlike-up_to : (i j : ℕ) (d : Segment) → i ≤ j → j < length xs → HaveSameFiles (value_at i d) (value_at j d)
      → AreAlike (value_at i d) (value_at j d)
  AreAlike-up_to i j d le h same =
      let e : i + (j - i) ≡ j = omega (arith, le) in
      subst (λ k. AreAlike (value_at i d) (value_at k d)) e
      (AreAlike-apart_by (j - i) i d (omega (arith, le, h))
      (subst (λ k. HaveSameFiles (value_at i d) (value_at k d)) (sym e) same))

  -- any two segments of the same files agree
  AreAlike-any_two : (i j : ℕ) (d : Segment) → i < length xs → j < length xs
      → HaveSameFiles (value_at i d) (value_at j d)
      → AreAlike (value_at i d) (value_at j d)
  AreAlike-any_two i j d h k same = by_order (cases_order i j)
    where
      by_order : ((i ≡ j) ⊎ ((i < j) ⊎ (j < i))) → AreAlike (value_at i d) (value_at j d)
      by_order (inl e) = AreAlike-up_to i j d (omega (arith, e)) k same
      by_order (inr (inl below)) = AreAlike-up_to i j d (omega (arith, below)) k same
      by_order (inr (inr above)) =
          AreAlike-symmetric (value_at j d) (value_at i d)
          (AreAlike-up_to j i d (omega (arith, above)) h (sym same.0, sym same.1))

  -- a segment of the list has an index there
  index-of_contained : (s : SegmentValue) → Contains (map segment_value xs) s → (d : Segment)
      → (k : ℕ) × (k < length xs) × (value_at k d ≡ s)
  index-of_contained s c d =
      let k = c.0 in
      let h : k < length xs = omega (arith, c.1, length-map xs segment_value) in
      (k, h, sym (get_or-map segment_value xs k d s h) ∙ c.2)

  -- of all segments, those of the same files agree
  AllAlike-in_order : (d : Segment) → AllAlike (map segment_value xs)
  AllAlike-in_order d s t p q same =
      let a = index-of_contained s p d in
      let b = index-of_contained t q d in
      subst (λ x. AreAlike x t) a.2
      (subst (λ y. AreAlike (value_at a.0 d) y) b.2
      (AreAlike-any_two a.0 b.0 d a.1 b.1 (
        ap (λ (x : SegmentValue). x.first) a.2 ∙ (same.0
            ∙ sym (ap (λ (x : SegmentValue). x.first) b.2)),
        ap (λ (x : SegmentValue). x.order) a.2 ∙ (same.1
            ∙ sym (ap (λ (x : SegmentValue). x.order) b.2)),
      )))

-- if sorted neighbours of the same files agree, all segments of the same files do
pub AllAlike-neighbours : (xs : List Segment) → All IsSegment (map segment_value xs)
    → IsNonDecreasingBy (λ (s : Segment). order_key (segment_value s)) xs → NextAlike xs (length xs)
    → AllAlike (map segment_value xs)
AllAlike-neighbours [] all sorted next = λ s t p q same. absurd (omega (arith, p.1))
AllAlike-neighbours (x ∷ xs) all sorted next = AllAlike-in_order (x ∷ xs) all sorted next x

-- if two neighbours of the same files differ, `SegmentsDifferAt` holds
pub SegmentsDifferAt-neighbours : (xs : List Segment) (n : ℕ) (a b : Segment) → 0 < n → n < length xs
    → a ≡ get_or xs (n - 1) a → b ≡ get_or xs n b → HaveSameFiles (segment_value a) (segment_value b)
    → (AreAlike (segment_value a) (segment_value b) → ⊥) → SegmentsDifferAt (map segment_value xs) a.first
SegmentsDifferAt-neighbours xs n a b some h is-a is-b same differ =
    record {
      one = segment_value a;
      other = segment_value b;
      one_there = there (n - 1) a (omega (arith, h)) is-a;
      other_there = there n b h is-b;
      numbered = refl;
      same_files = same;
      differ = differ;
    }
  where
    there : (k : ℕ) (x : Segment) → k < length xs → x ≡ get_or xs k x
        → Contains (map segment_value xs) (segment_value x)
    there k x lt is = (
      k,
      omega (arith, lt, length-map xs segment_value),
      get_or-map segment_value xs k x (segment_value x) lt ∙ ap segment_value (sym is),
    )
