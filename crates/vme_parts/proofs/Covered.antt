-- Which files segments in order cover, and how many a recording has.
use Rattle.std.proofs.Common.{inl, inr, ◌≡◌, ℕ, zero, suc, ◌+◌, ◌-◌, ◌<◌, ◌≤◌, List, [], ◌∷◌, length, map}
use Rattle.std.proofs.Common.{get_or}
use Rattle.std.proofs.Common.{refl, sym, subst, arith, Option, None, Some}
use Rattle.std.specs.Prelude.{◌⊎◌, IfSome}
use Rattle.std.specs.List.{last_or}
use Rattle.std.proofs.lemmas.Bool.{cases_lt, cases_order}
use Rattle.std.proofs.lemmas.Nat.{pow_pos}
use Rattle.vme_part_format.specs.Tables.{PartValue, SegmentValue, last_of, segment_value}
use Rattle.vme_part_format.specs.declared.segment.Segment.{Segment}
use Rattle.vme_parts.specs.Covering.{AreNext, HasGap, IsBeyond, AreWithinFiles, LacksFrom}
use Rattle.vme_parts.specs.Files.{PartCovers, SegmentCovers, SegmentsCover}
use Rattle.vme_parts.specs.Gathering.{Ascend}
use Rattle.vme_parts.specs.Telling.{AllCovered, HasFiles, IsMissing}
use Rattle.vme_parts.proofs.Ordering.{Contains-last}

-- what the segment s covers, s ∷ ss cover
SegmentsCover-head : (s : SegmentValue) (ss : List SegmentValue) (k : ℕ) → SegmentCovers s k → SegmentsCover (s ∷ ss) k
SegmentsCover-head s ss k c = (s, (0, omega arith, refl), c)

-- what ss cover, s ∷ ss cover
SegmentsCover-tail : (s : SegmentValue) (ss : List SegmentValue) (k : ℕ) → SegmentsCover ss k → SegmentsCover (s ∷ ss) k
SegmentsCover-tail s ss k c = (c.0, (suc c.1.0, omega (arith, c.1.1), c.1.2), c.2)

-- if a segment of s ∷ ss covers k, so does s or one of ss
SegmentsCover-cases : (s : SegmentValue) (ss : List SegmentValue) (k : ℕ) → SegmentsCover (s ∷ ss) k
    → SegmentCovers s k ⊎ SegmentsCover ss k
SegmentsCover-cases s ss k c = by_place c.1.0 c.1.1 c.1.2
  where
    by_place : (i : ℕ) → i < length (s ∷ ss) → get_or (s ∷ ss) i c.0 ≡ c.0 → SegmentCovers s k ⊎ SegmentsCover ss k
    by_place zero h e = inl (subst (λ (x : SegmentValue). SegmentCovers x k) (sym e) c.2)
    by_place (suc i) h e = inr (c.0, (i, omega (arith, h), e), c.2)

-- the segments ascend, and the first begins with n or a later file
abbrev AscendFrom : ℕ → List SegmentValue → Type 0
AscendFrom n [] = Unit {0}
AscendFrom n (s ∷ ss) = (n ≤ s.first) × AscendFrom (last_of s.first s.order + 1) ss

-- segments that ascend after the file l begin with l + 1 or a later file
AscendFrom-after : (l : ℕ) (ss : List SegmentValue) → Ascend (Some l) ss → AscendFrom (l + 1) ss
AscendFrom-after l [] a = tt
AscendFrom-after l (s ∷ ss) a = (omega (arith, a.0), AscendFrom-after (last_of s.first s.order) ss a.1)

-- segments that ascend begin with the file 0 or a later one
pub AscendFrom-zero : (ss : List SegmentValue) → Ascend None ss → AscendFrom 0 ss
AscendFrom-zero [] a = tt
AscendFrom-zero (s ∷ ss) a = (omega arith, AscendFrom-after (last_of s.first s.order) ss a.1)

-- segments from n on cover no file before n
covered-not_before : (n : ℕ) (ss : List SegmentValue) (k : ℕ) → AscendFrom n ss → SegmentsCover ss k → n ≤ k
covered-not_before n [] k f c = absurd (omega (arith, c.1.1))
covered-not_before n (s ∷ ss) k f c = by_case (covered-not_before (last_of s.first s.order + 1) ss k f.1)
    (SegmentsCover-cases s ss k c)
  where
    by_case : (SegmentsCover ss k → last_of s.first s.order + 1 ≤ k) → (SegmentCovers s k ⊎ SegmentsCover ss k) → n ≤ k
    by_case in_rest (inl h) = omega (arith, f.0, h.0)
    by_case in_rest (inr h) = omega (arith, f.0, in_rest h, pow_pos s.order)

-- segments that follow one another from the file n to end - 1 cover each of these files
pub AreNext-covers : (n : ℕ) (ss : List SegmentValue) (end k : ℕ) → AreNext n ss end → n ≤ k → k < end
    → SegmentsCover ss k
AreNext-covers n [] end k a low high = absurd (omega (arith, a, low, high))
AreNext-covers n (s ∷ ss) end k a low high =
    by_place (λ h. AreNext-covers (last_of s.first s.order + 1) ss end k a.1 h high)
    (cases_lt k (last_of s.first s.order + 1))
  where
    by_place : (last_of s.first s.order + 1 ≤ k → SegmentsCover ss k)
        → ((k < last_of s.first s.order + 1) ⊎ (last_of s.first s.order + 1 ≤ k)) → SegmentsCover (s ∷ ss) k
    by_place in_rest (inl h) = SegmentsCover-head s ss k (omega (arith, a.0, low), omega (arith, h))
    by_place in_rest (inr h) = SegmentsCover-tail s ss k (in_rest h)

-- segments that follow one another from the file n to end - 1 don't end before n
pub AreNext-not_before : (n : ℕ) (ss : List SegmentValue) (end : ℕ) → AreNext n ss end → n ≤ end
AreNext-not_before n [] end a = omega (arith, a)
AreNext-not_before n (s ∷ ss) end a =
    omega (arith, a.0, AreNext-not_before (last_of s.first s.order + 1) ss end a.1, pow_pos s.order)

-- segments that follow one another from the file n to end - 1 cover no file from `end` on
pub AreNext-covered_below : (n : ℕ) (ss : List SegmentValue) (end k : ℕ) → AreNext n ss end → SegmentsCover ss k
    → k < end
AreNext-covered_below n [] end k a c = absurd (omega (arith, c.1.1))
AreNext-covered_below n (s ∷ ss) end k a c =
    by_case (AreNext-covered_below (last_of s.first s.order + 1) ss end k a.1) (SegmentsCover-cases s ss k c)
  where
    by_case : (SegmentsCover ss k → k < end) → (SegmentCovers s k ⊎ SegmentsCover ss k) → k < end
    by_case in_rest (inl h) = omega (arith, h.1, AreNext-not_before (last_of s.first s.order + 1) ss end a.1)
    by_case in_rest (inr h) = in_rest h

-- each file from n on that is before the gap is covered
pub HasGap-covered_before : (n : ℕ) (ss : List SegmentValue) (k i : ℕ) → HasGap n ss k → n ≤ i → i < k
    → SegmentsCover ss i
HasGap-covered_before n [] k i g low high = absurd g
HasGap-covered_before n (s ∷ ss) k i (inl g) low high = absurd (omega (arith, g.1, low, high))
HasGap-covered_before n (s ∷ ss) k i (inr g) low high =
    by_place (λ h. HasGap-covered_before (last_of s.first s.order + 1) ss k i g.1 h high)
    (cases_lt i (last_of s.first s.order + 1))
  where
    by_place : (last_of s.first s.order + 1 ≤ i → SegmentsCover ss i)
        → ((i < last_of s.first s.order + 1) ⊎ (last_of s.first s.order + 1 ≤ i)) → SegmentsCover (s ∷ ss) i
    by_place in_rest (inl h) = SegmentsCover-head s ss i (omega (arith, g.0, low), omega (arith, h))
    by_place in_rest (inr h) = SegmentsCover-tail s ss i (in_rest h)

-- the gap of segments that begin with n isn't before n
HasGap-not_before : (n : ℕ) (ss : List SegmentValue) (k : ℕ) → HasGap n ss k → n ≤ k
HasGap-not_before n [] k g = absurd g
HasGap-not_before n (s ∷ ss) k (inl g) = omega (arith, g.1)
HasGap-not_before n (s ∷ ss) k (inr g) =
    omega (arith, g.0, HasGap-not_before (last_of s.first s.order + 1) ss k g.1, pow_pos s.order)

-- the file at the gap isn't covered
pub HasGap-not_covered : (n : ℕ) (ss : List SegmentValue) (k : ℕ) → AscendFrom n ss → HasGap n ss k → SegmentsCover ss k
    → ⊥
HasGap-not_covered n [] k f g c = g
HasGap-not_covered n (s ∷ ss) k f (inl g) c = by_order (cases_order s.first n) (SegmentsCover-cases s ss k c)
  where
    by_order : ((s.first ≡ n) ⊎ ((s.first < n) ⊎ (n < s.first))) → (SegmentCovers s k ⊎ SegmentsCover ss k) → ⊥
    by_order (inl e) d = g.0 e
    by_order (inr (inl h)) d = absurd (omega (arith, h, f.0))
    by_order (inr (inr h)) (inl d) = absurd (omega (arith, h, g.1, d.0))
    by_order (inr (inr h)) (inr d) =
        absurd (omega (arith, h, g.1, covered-not_before (last_of s.first s.order + 1) ss k f.1 d, pow_pos s.order))
HasGap-not_covered n (s ∷ ss) k f (inr g) c =
    by_case (HasGap-not_covered (last_of s.first s.order + 1) ss k f.1 g.1) (SegmentsCover-cases s ss k c)
  where
    by_case : (SegmentsCover ss k → ⊥) → (SegmentCovers s k ⊎ SegmentsCover ss k) → ⊥
    by_case in_rest (inl d) = absurd (omega (arith, d.1, HasGap-not_before (last_of s.first s.order + 1) ss k g.1))
    by_case in_rest (inr d) = in_rest d

-- a file after k is covered
record CoversAfter (ss : List SegmentValue) (k : ℕ) : Type 0 where
  pub at : ℕ
  pub is_after : k < at
  pub there : SegmentsCover ss at

-- a file after the gap is covered
HasGap-covers_after : (n : ℕ) (ss : List SegmentValue) (k : ℕ) → AscendFrom n ss → HasGap n ss k → CoversAfter ss k
HasGap-covers_after n [] k f g = absurd g
HasGap-covers_after n (s ∷ ss) k f (inl g) = by_order (cases_order s.first n)
  where
    by_order : ((s.first ≡ n) ⊎ ((s.first < n) ⊎ (n < s.first))) → CoversAfter (s ∷ ss) k
    by_order (inl e) = absurd (g.0 e)
    by_order (inr (inl h)) = absurd (omega (arith, h, f.0))
    by_order (inr (inr h)) =
        record {
          at = s.first;
          is_after = omega (arith, h, g.1);
          there = SegmentsCover-head s ss s.first (omega arith, omega (arith, pow_pos s.order));
        }
HasGap-covers_after n (s ∷ ss) k f (inr g) =
    let r = HasGap-covers_after (last_of s.first s.order + 1) ss k f.1 g.1 in
    record { at = r.at; is_after = r.is_after; there = SegmentsCover-tail s ss r.at r.there }

-- a file up to the last of s isn't after the last file of the last segment of s ∷ ss
last_or-up_to_head : (s : SegmentValue) (ss : List SegmentValue) (k : ℕ) → AscendFrom (last_of s.first s.order + 1) ss
    → k ≤ last_of s.first s.order → IfSome (last_or (Some s) ss) (λ last. k ≤ last_of last.first last.order)
last_or-up_to_head s [] k f h = h
last_or-up_to_head s (t ∷ ts) k f h = last_or-up_to_head t ts k f.1 (omega (arith, f.0, h, pow_pos t.order))

-- a file that ss cover isn't after the last file of the last segment, where `before` stands before ss
covered-up_to_last_or : (before : SegmentValue) (n : ℕ) (ss : List SegmentValue) (k : ℕ) → AscendFrom n ss
    → SegmentsCover ss k
    → IfSome (last_or (Some before) ss) (λ last. k ≤ last_of last.first last.order)
covered-up_to_last_or before n [] k f c = absurd (omega (arith, c.1.1))
covered-up_to_last_or before n (s ∷ ss) k f c =
    by_case (covered-up_to_last_or s (last_of s.first s.order + 1) ss k f.1) (SegmentsCover-cases s ss k c)
  where
    by_case : (SegmentsCover ss k → IfSome (last_or (Some s) ss) (λ last. k ≤ last_of last.first last.order))
        → (SegmentCovers s k ⊎ SegmentsCover ss k)
        → IfSome (last_or (Some s) ss) (λ last. k ≤ last_of last.first last.order)
    by_case in_rest (inl h) = last_or-up_to_head s ss k f.1 h.1
    by_case in_rest (inr h) = in_rest h

-- a file that ss cover isn't after the last file of the last segment
pub covered-up_to_last : (n : ℕ) (ss : List SegmentValue) (k : ℕ) → AscendFrom n ss → SegmentsCover ss k
    → IfSome (last_or None ss) (λ last. k ≤ last_of last.first last.order)
covered-up_to_last n [] k f c = absurd (omega (arith, c.1.1))
covered-up_to_last n (s ∷ ss) k f c = covered-up_to_last_or s n (s ∷ ss) k f c

-- where there is a segment, there is a last one
last_or-not_none : (s : SegmentValue) (ss : List SegmentValue) → last_or (Some s) ss ≡ None → ⊥
last_or-not_none s [] e = cc
last_or-not_none s (t ∷ ts) e = last_or-not_none t ts e

-- where there is no last segment, no file is covered
not_covered-no_last : (ss : List SegmentValue) (k : ℕ) → last_or None ss ≡ None → SegmentsCover ss k → ⊥
not_covered-no_last [] k e c = absurd (omega (arith, c.1.1))
not_covered-no_last (s ∷ ss) k e c = last_or-not_none s ss e

-- if the last file of the last segment is below c, each file that is covered is
covered-within_files : (ss : List SegmentValue) (c k : ℕ) → AscendFrom 0 ss → AreWithinFiles ss (Some c)
    → SegmentsCover ss k → k < c
covered-within_files ss c k f w d = by_last (last_or None ss) w (covered-up_to_last 0 ss k f d) refl
  where
    by_last : (o : Option SegmentValue) → IfSome o (λ last. last_of last.first last.order < c)
        → IfSome o (λ last. k ≤ last_of last.first last.order) → last_or None ss ≡ o → k < c
    by_last (Some s) h i e = omega (arith, h, i)
    by_last None h i e = absurd (not_covered-no_last ss k e d)

-- the part p, whose segments ascend
module _ (p : PartValue) (up : AscendFrom 0 p.segments) where
  -- a gap is the least file that is missing, below the number of files
  pub IsMissing-gap : (count : Option ℕ) (n k : ℕ) → AreWithinFiles p.segments count → HasFiles p count n
      → HasGap 0 p.segments k → IsMissing p k × (k < n)
  IsMissing-gap count n k w h g = (
    record {
      before = λ i low. HasGap-covered_before 0 p.segments k i g (omega arith) low;
      there = HasGap-not_covered 0 p.segments k up g;
    },
    by_count count w h (HasGap-covers_after 0 p.segments k up g),
  )
    where
      by_count : (count : Option ℕ) → AreWithinFiles p.segments count → HasFiles p count n → CoversAfter p.segments k
          → k < n
      by_count (Some c) w h b = omega (arith, h.1, b.is_after, covered-within_files p.segments c b.at up w b.there)
      by_count None w h b = by_place (cases_lt b.at n)
        where
          by_place : ((b.at < n) ⊎ (n ≤ b.at)) → k < n
          by_place (inl i) = omega (arith, i, b.is_after)
          by_place (inr i) = absurd (h.1 (b.at, i, b.there))

  -- the part's segments follow one another and cover the files from 0 to end - 1
  module _ (end : ℕ) (next : AreNext 0 p.segments end) where
    -- if the recording has more than `end` files, the file `end` is missing
    pub IsMissing-end : (count : Option ℕ) (n : ℕ) → HasFiles p count n → LacksFrom count end → IsMissing p end ×
        (end < n)
    IsMissing-end count n h l = (
      record {
        before = λ i low. AreNext-covers 0 p.segments end i next (omega arith) low;
        there = λ c. let low = AreNext-covered_below 0 p.segments end end next c in absurd (omega (arith, low));
      },
      by_count count h l,
    )
      where
        by_count : (count : Option ℕ) → HasFiles p count n → LacksFrom count end → end < n
        by_count (Some c) h (inl l) = omega (arith, h.0, l)
        by_count (Some c) h (inr l) = omega (arith, h.1, l)
        by_count None h l = omega (arith, h.0, l)

    -- if the recording doesn't have more than `end` files, and all covered files are within it, it has `end` files
    pub file_count-of_covered : (count : Option ℕ) (n : ℕ) → AreWithinFiles p.segments count → HasFiles p count n
        → (LacksFrom count end → ⊥) → n ≡ end
    file_count-of_covered (Some c) n w h l = by_order (cases_order c end)
      where
        by_order : ((c ≡ end) ⊎ ((c < end) ⊎ (end < c))) → n ≡ end
        by_order (inl e) = omega (arith, h.1, e)
        by_order (inr (inl i)) =
            absurd (omega (
              arith,
              covered-within_files p.segments c c up w
                  (AreNext-covers 0 p.segments end c next (omega arith) i),
            ))
        by_order (inr (inr i)) = absurd (l (inr i))
    file_count-of_covered None n w h l = by_order (cases_order n end)
      where
        some : 0 < end
        some = by_zero (cases_order end 0)
          where
            by_zero : ((end ≡ 0) ⊎ ((end < 0) ⊎ (0 < end))) → 0 < end
            by_zero (inl e) = absurd (l e)
            by_zero (inr (inl i)) = absurd (omega (arith, i))
            by_zero (inr (inr i)) = i

        by_last : ((n ≡ 1) ⊎ PartCovers p (n - 1)) → end < n → n ≡ end
        by_last (inl e) i = omega (arith, e, i, some)
        by_last (inr c) i = omega (arith, i, AreNext-covered_below 0 p.segments end (n - 1) next c)

        by_order : ((n ≡ end) ⊎ ((n < end) ⊎ (end < n))) → n ≡ end
        by_order (inl e) = e
        by_order (inr (inl i)) = absurd (h.1 (n, omega arith, AreNext-covers 0 p.segments end n next (omega arith) i))
        by_order (inr (inr i)) = by_last h.2 i

    -- if the recording has `end` files, all of them are covered
    pub AllCovered-next : (n : ℕ) → n ≡ end → AllCovered p n
    AllCovered-next n e k low = AreNext-covers 0 p.segments end k next (omega arith) (omega (arith, e, low))

-- the last file of the last segment is covered
pub PartCovers-last : (p : PartValue) (last : SegmentValue) → last_or None p.segments ≡ Some last
    → PartCovers p (last_of last.first last.order)
PartCovers-last p last e =
    (last, Contains-last p.segments last e, (omega arith, omega arith))

-- if there are no segments, the recording has more files than are covered
pub LacksFrom-no_segments : (count : Option ℕ) (end : ℕ) (xs : List Segment) → xs ≡ []
    → AreNext 0 (map segment_value xs) end
    → LacksFrom count end
LacksFrom-no_segments count end xs e next =
    by_count count (subst (λ (ys : List Segment). AreNext 0 (map segment_value ys) end) e next)
  where
    by_count : (count : Option ℕ) → end ≡ 0 → LacksFrom count end
    by_count None z = z
    by_count (Some c) z = inl z

-- ---- whether the last file that is covered is beyond those of the recording

-- if the last file of the last segment isn't below the c files of the recording, it is beyond them
pub IsBeyond-last : (ss : List SegmentValue) (last : SegmentValue) (count : Option ℕ) (c k : ℕ) → last_or None ss
    ≡ Some last
    → k ≡ last_of last.first last.order → count ≡ Some c → c ≤ k → IsBeyond ss count k
IsBeyond-last ss last count c k there at counted behind =
    record { last = last; files = c; there = there; at = at; counted = counted; behind = behind }

-- without segments no last file is beyond those of the recording
pub AreWithinFiles-no_segments : (ss : List SegmentValue) (count : Option ℕ) → last_or None ss ≡ None
    → AreWithinFiles ss count
AreWithinFiles-no_segments ss None e = tt
AreWithinFiles-no_segments ss (Some c) e = by_last (last_or None ss) e
  where
    by_last : (o : Option SegmentValue) → o ≡ None → IfSome o (λ last. last_of last.first last.order < c)
    by_last None f = tt
    by_last (Some last) f = absurd (cc)

-- if the last file of the last segment is below c, the segments are within c files
pub AreWithinFiles-last : (ss : List SegmentValue) (last : SegmentValue) (c k : ℕ) → last_or None ss ≡ Some last
    → k ≡ last_of last.first last.order → k < c → AreWithinFiles ss (Some c)
AreWithinFiles-last ss last c k there at low =
    subst (λ (o : Option SegmentValue). IfSome o (λ s. last_of s.first s.order < c)) (sym there)
    (omega (arith, at, low))
