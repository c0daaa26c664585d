-- Segments that are gathered one by one.
use Rattle.std.proofs.Common.{inl, inr, ◌≡◌, ℕ, ◌+◌, Bool, List, [], ◌∷◌, ◌++◌, refl}
use Rattle.std.proofs.Common.{sum_by, sym, subst}
use Rattle.std.proofs.Common.{Option, Some, None, append_assoc, arith}
use Rattle.std.specs.Prelude.{◌⊎◌, All, Contains}
use Rattle.std.proofs.lemmas.List.Elements.{All-contains, All-head, All-push, All-tail}
use Rattle.std.proofs.lemmas.List.Elements.{Contains-append_left, Contains-append_right}
use Rattle.std.proofs.lemmas.List.Elements.{Contains-push, Contains-push_cases}
use Rattle.std.proofs.lemmas.List.Sums.{sum_by-append, sum_by_push}
use Rattle.vme_trace.proofs.ListLaws.{All-front, All-back}
use Rattle.vme_part_format.specs.Bounds.{FitSegments, FitsSegment}
use Rattle.vme_part_format.specs.Sizes.{IsCompact}
use Rattle.vme_part_format.specs.Tables.{SegmentValue, last_of}
use Rattle.vme_parts.specs.Buddies.{AreBuddies}
use Rattle.vme_parts.specs.Files.{SegmentCovers, SegmentsCover, files_of}
use Rattle.vme_parts.specs.Gathering.{Ascend, Gathered}
use Rattle.vme_parts.specs.Joined.{IsOfBoth}
use Rattle.vme_parts.specs.Stands.{SegmentStandsFor}
use Rattle.vme_parts.proofs.Merging.{FitsSegment-both, SegmentStandsFor-merged, SegmentCovers-of_first}
use Rattle.vme_parts.proofs.Merging.{SegmentCovers-of_second, SegmentCovers-cases}

-- what holds of all items of xs ++ x ∷ [] holds of x
pub All-last : {X : Type 0} (P : X → Type 0) (xs : List X) (x : X) → All P (xs ++ x ∷ []) → P x
All-last P xs x all = All-contains P (xs ++ x ∷ []) x all (Contains-push xs x)

-- `All` holds if two items at the end are replaced by one for which P follows
All-last_two_merged : {X : Type 0} (P : X → Type 0) (xs : List X) (s t r : X) → (P s → P t → P r)
    → All P (xs ++ s ∷ t ∷ [])
    → All P (xs ++ r ∷ [])
All-last_two_merged P xs s t r both all =
    let back = All-back P xs (s ∷ t ∷ []) all in
    All-push P xs r (All-front P xs (s ∷ t ∷ []) all)
    (both (All-head P s (t ∷ []) back) (All-head P t [] (All-tail P s (t ∷ []) back)))

-- what xs cover, xs ++ x ∷ [] cover
SegmentsCover-push : (xs : List SegmentValue) (x : SegmentValue) (n : ℕ) → SegmentsCover xs n
    → SegmentsCover (xs ++ x ∷ []) n
SegmentsCover-push xs x n c = (c.0, Contains-append_left xs (x ∷ []) c.0 c.1, c.2)

-- what x covers, xs ++ x ∷ [] cover
SegmentsCover-pushed : (xs : List SegmentValue) (x : SegmentValue) (n : ℕ) → SegmentCovers x n
    → SegmentsCover (xs ++ x ∷ []) n
SegmentsCover-pushed xs x n c = (x, Contains-push xs x, c)

-- what xs ++ x ∷ [] cover, xs cover or x covers
SegmentsCover-push_cases : (xs : List SegmentValue) (x : SegmentValue) (n : ℕ) → SegmentsCover (xs ++ x ∷ []) n
    → SegmentsCover xs n ⊎ SegmentCovers x n
SegmentsCover-push_cases xs x n c = by_place (Contains-push_cases xs x c.0 c.1)
  where
    by_place : (Contains xs c.0 ⊎ (x ≡ c.0)) → SegmentsCover xs n ⊎ SegmentCovers x n
    by_place (inl h) = inl (c.0, h, c.2)
    by_place (inr e) = inr (subst (λ (s : SegmentValue). SegmentCovers s n) (sym e) c.2)

-- the numbers of two segments together
pub sum_by-two : (f : SegmentValue → ℕ) (s t : SegmentValue) → sum_by f (s ∷ t ∷ []) ≡ f s + f t
sum_by-two f s t = omega arith

-- of no segments none are gathered
pub Gathered-nothing : Gathered [] []
Gathered-nothing =
    record {
      order = tt;
      covers = λ n. (λ c. c, λ c. c);
      stand = λ listing files all. all;
      fits = λ listing all. all;
      compact = λ all. all;
      few = λ f joined. omega arith;
    }

-- `Gathered` holds with one more segment at the end of both
pub Gathered-push : (done ss : List SegmentValue) (x : SegmentValue) → Gathered done ss → Ascend None (ss ++ x ∷ [])
    → Gathered (done ++ x ∷ []) (ss ++ x ∷ [])
Gathered-push done ss x g order =
    record {
      order = order;
      covers = λ n. (
        λ c. to n (λ h. (g.covers n).0 h) (SegmentsCover-push_cases ss x n c),
        λ c. back n (λ h. (g.covers n).1 h) (SegmentsCover-push_cases done x n c),
      );
      stand = λ listing files all.
          let P : SegmentValue → Type 0 = λ s. SegmentStandsFor listing s (files_of files s) in
          All-push P ss x (g.stand listing files (All-front P done (x ∷ []) all)) (All-last P done x all);
      fits = λ listing all.
          All-push (FitsSegment listing) ss x (g.fits listing (All-front (FitsSegment listing) done (x ∷ []) all))
          (All-last (FitsSegment listing) done x all);
      compact = λ all.
          All-push IsCompact ss x (g.compact (All-front IsCompact done (x ∷ []) all)) (All-last IsCompact done x all);
      few = λ f joined. omega (arith, g.few f joined, sum_by_push f done x, sum_by_push f ss x);
    }
  where
    to : (n : ℕ) → (SegmentsCover ss n → SegmentsCover done n) → (SegmentsCover ss n ⊎ SegmentCovers x n)
        → SegmentsCover (done ++ x ∷ []) n
    to n h (inl c) = SegmentsCover-push done x n (h c)
    to n h (inr c) = SegmentsCover-pushed done x n c

    back : (n : ℕ) → (SegmentsCover done n → SegmentsCover ss n) → (SegmentsCover done n ⊎ SegmentCovers x n)
        → SegmentsCover (ss ++ x ∷ []) n
    back n h (inl c) = SegmentsCover-push ss x n (h c)
    back n h (inr c) = SegmentsCover-pushed ss x n c

-- `Gathered` holds with one more segment in `done` that lies within one of ss
pub Gathered-within : (done ss : List SegmentValue) (x s : SegmentValue) → Gathered done ss → Contains ss s
    → ((n : ℕ) → SegmentCovers x n → SegmentCovers s n) → Gathered (done ++ x ∷ []) ss
Gathered-within done ss x s g there within =
    record {
      order = g.order;
      covers = λ n. (
        λ c. SegmentsCover-push done x n ((g.covers n).0 c),
        λ c. back n (λ h. (g.covers n).1 h) (SegmentsCover-push_cases done x n c),
      );
      stand = λ listing files all.
          let P : SegmentValue → Type 0 = λ s. SegmentStandsFor listing s (files_of files s) in
          g.stand listing files (All-front P done (x ∷ []) all);
      fits = λ listing all. g.fits listing (All-front (FitsSegment listing) done (x ∷ []) all);
      compact = λ all. g.compact (All-front IsCompact done (x ∷ []) all);
      few = λ f joined. omega (arith, g.few f joined, sum_by_push f done x);
    }
  where
    back : (n : ℕ) → (SegmentsCover done n → SegmentsCover ss n) → (SegmentsCover done n ⊎ SegmentCovers x n)
        → SegmentsCover ss n
    back n h (inl c) = h c
    back n h (inr c) = (s, there, within n c)

-- if r replaces s and t at the end and begins where s does, the segments still ascend
Ascend-merged : (before : Option ℕ) (front : List SegmentValue) (s t r : SegmentValue) → r.first ≡ s.first
    → Ascend before (front ++ s ∷ t ∷ []) → Ascend before (front ++ r ∷ [])
Ascend-merged None [] s t r e a = (tt, tt)
Ascend-merged (Some l) [] s t r e a = (rw e a.0, tt)
Ascend-merged before (x ∷ xs) s t r e a = (a.0, Ascend-merged (Some (last_of x.first x.order)) xs s t r e a.1)

-- `Gathered` holds if the buddies s and t at the end are joined to r
pub Gathered-merged : (done front : List SegmentValue) (s t r : SegmentValue) → Gathered done (front ++ s ∷ t ∷ [])
    → IsOfBoth s t r → AreBuddies s t → IsCompact r → Gathered done (front ++ r ∷ [])
Gathered-merged done front s t r g b h few =
    record {
      order = Ascend-merged None front s t r b.first g.order;
      covers = λ n. (
        λ c. (g.covers n).0 (to n (SegmentsCover-push_cases front r n c)),
        λ c. back n ((g.covers n).1 c),
      );
      stand = λ listing files all.
          All-last_two_merged (λ (s : SegmentValue). SegmentStandsFor listing s (files_of files s)) front s t r
          (SegmentStandsFor-merged s t r b h listing files) (g.stand listing files all);
      fits = λ listing all.
          All-last_two_merged (FitsSegment listing) front s t r (FitsSegment-both s t r b h listing)
          (g.fits listing all);
      compact = λ all. All-last_two_merged IsCompact front s t r (λ p q. few) (g.compact all);
      few = λ f joined.
          omega (
            arith,
            g.few f joined,
            joined s t r b,
            sum_by_push f front r,
            sum_by-append f front (s ∷ t ∷ []),
            sum_by-two f s t,
          );
    }
  where
    to_two : (n : ℕ) → (SegmentCovers s n ⊎ SegmentCovers t n) → SegmentsCover (front ++ s ∷ t ∷ []) n
    to_two n (inl c) = (s, Contains-append_right front (s ∷ t ∷ []) s (0, omega arith, refl), c)
    to_two n (inr c) = (t, Contains-append_right front (s ∷ t ∷ []) t (1, omega arith, refl), c)

    to : (n : ℕ) → (SegmentsCover front n ⊎ SegmentCovers r n) → SegmentsCover (front ++ s ∷ t ∷ []) n
    to n (inl c) = (c.0, Contains-append_left front (s ∷ t ∷ []) c.0 c.1, c.2)
    to n (inr c) = to_two n (SegmentCovers-cases s t r b h n c)

    back : (n : ℕ) → SegmentsCover (front ++ s ∷ t ∷ []) n → SegmentsCover (front ++ r ∷ []) n
    back n c =
        let split : (front ++ s ∷ []) ++ t ∷ [] ≡ front ++ s ∷ t ∷ [] = append_assoc front (s ∷ []) (t ∷ []) in
        by_last n (SegmentsCover-push_cases (front ++ s ∷ []) t n (subst (λ xs. SegmentsCover xs n) (sym split) c))
      where
        by_first : (n : ℕ) → (SegmentsCover front n ⊎ SegmentCovers s n) → SegmentsCover (front ++ r ∷ []) n
        by_first n (inl c) = SegmentsCover-push front r n c
        by_first n (inr c) = SegmentsCover-pushed front r n (SegmentCovers-of_first s t r b h n c)

        by_last : (n : ℕ) → (SegmentsCover (front ++ s ∷ []) n ⊎ SegmentCovers t n) → SegmentsCover (front ++ r ∷ []) n
        by_last n (inl c) = by_first n (SegmentsCover-push_cases front s n c)
        by_last n (inr c) = SegmentsCover-pushed front r n (SegmentCovers-of_second s t r b h n c)

-- segments that ascend and can be written each can be written together
pub FitSegments-ascend : (listing : Bool) (before : Option ℕ) (ss : List SegmentValue) → Ascend before ss
    → All (FitsSegment listing) ss → FitSegments listing before ss
FitSegments-ascend listing before [] a all = tt
FitSegments-ascend listing before (s ∷ ss) a all = (
  All-head (FitsSegment listing) s ss all,
  a.0,
  FitSegments-ascend listing (Some (last_of s.first s.order)) ss a.1 (All-tail (FitsSegment listing) s ss all),
)
