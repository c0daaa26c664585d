-- One segment in place of two buddies.
use Rattle.std.proofs.Common.{inl, inr, ◌≡◌, ℕ, ◌+◌, ◌<◌, ◌≤◌, ◌^◌, Bool, List}
use Rattle.std.proofs.Common.{◌++◌}
use Rattle.std.proofs.Common.{take, drop, ap, sym, subst, ◌∙◌, arith, Option, Some, None}
use Rattle.std.specs.Prelude.{◌⊎◌}
use Rattle.std.proofs.Math.Seq.{take-add}
use Rattle.std.proofs.Common.{true}
use Rattle.std.proofs.lemmas.Bool.{cases_lt, ltb-true}
use Rattle.std.proofs.lemmas.List.{drop-drop}
use Rattle.std.proofs.lemmas.Nat.{pow_pos}
use Rattle.vme_trace.specs.declared.block.Block.{Block}
use Rattle.vme_trace.specs.Levels.{Levels}
use Rattle.vme_summary.specs.Extents.{Meets}
use Rattle.vme_summary.specs.Joins.{is_later_time}
use Rattle.vme_part_format.specs.Bounds.{FitsSegment, FitsTimes}
use Rattle.vme_part_format.specs.Tables.{SegmentValue}
use Rattle.vme_part_format.specs.declared.segment.SegmentTimes.{SegmentTimes}
use Rattle.vme_parts.specs.Alike.{SomeHaveTooManySteps}
use Rattle.vme_parts.specs.Buddies.{AreBuddies, SegmentGoesOn}
use Rattle.vme_parts.specs.Files.{SegmentCovers, files_of}
use Rattle.vme_parts.specs.Joined.{IsOfBoth, joined_times}
use Rattle.vme_parts.specs.Meeting.{ends_at, starts_at}
use Rattle.vme_parts.specs.Progress.{HaveTooManySteps}
use Rattle.vme_parts.specs.Stands.{SegmentStandsFor, extent_of}
use Rattle.vme_parts.proofs.Standing.{HaveTooManySteps-both, SegmentStandsFor-both, pow-next}

-- s and t are buddies
module _ (s t : SegmentValue) (h : AreBuddies s t) where
  -- t begins as many files after the first of s as s has
  first-of_buddy : t.first ≡ s.first + 2 ^ s.order
  first-of_buddy = omega (arith, h.behind, pow_pos s.order)

  -- the files of t come right after those of s
  files_of-buddies : (files : List Block) → files_of files s ++ files_of files t
      ≡ take (2 ^ s.order + 2 ^ s.order) (drop s.first files)
  files_of-buddies files =
      let size = 2 ^ s.order in
      let second : files_of files t ≡ take size (drop size (drop s.first files)) =
      ap (λ k. take (2 ^ k) (drop t.first files)) h.same_order
      ∙ (ap (λ k. take size (drop k files)) first-of_buddy
      ∙ ap (take size) (sym (drop-drop size s.first files))) in
      ap (λ x. files_of files s ++ x) second ∙ sym (take-add size size (drop s.first files))

  -- if t continues where s ends, and both have too many steps, so have some of the files that they stand for
  pub SomeHaveTooManySteps-buddies : SegmentGoesOn s t → 2 ^ 64 ≤ s.steps + t.steps
      → (listing : Bool) (files : List Block)
      → SegmentStandsFor listing s (files_of files s) → SegmentStandsFor listing t (files_of files t)
      → SomeHaveTooManySteps files
  SomeHaveTooManySteps-buddies goes_on many listing files p q =
      let meets : Meets (extent_of s) (extent_of t)
      = record { numbered = h.behind; opened = goes_on.opened; later = goes_on.later } in (
        s.first,
        2 ^ s.order + 2 ^ s.order,
        subst HaveTooManySteps (files_of-buddies files)
            (HaveTooManySteps-both s t meets many listing (files_of files s) (files_of files t) p q),
      )

-- r is joined from the buddies s and t
module _ (s t r : SegmentValue) (b : IsOfBoth s t r) (h : AreBuddies s t) where
  -- t begins as many files after the first of s as s has
  first-of_second : t.first ≡ s.first + 2 ^ s.order
  first-of_second = first-of_buddy s t h

  -- the files of r are those of s and then those of t
  pub files_of-both : (files : List Block) → files_of files s ++ files_of files t ≡ files_of files r
  files_of-both files =
      let size = 2 ^ s.order in
      let order : 2 ^ r.order ≡ size + size = ap (λ k. 2 ^ k) b.order ∙ pow-next s.order in
      files_of-buddies s t h files
      ∙ (ap (λ k. take k (drop s.first files)) (sym order) ∙ ap (λ k. take (2 ^ r.order) (drop k files)) (sym b.first))

  -- if s and t stand for their files, r does for its own
  pub SegmentStandsFor-merged : (listing : Bool) (files : List Block) → SegmentStandsFor listing s (files_of files s)
      → SegmentStandsFor listing t (files_of files t) → SegmentStandsFor listing r (files_of files r)
  SegmentStandsFor-merged listing files p q =
      subst (SegmentStandsFor listing r) (files_of-both files)
      (SegmentStandsFor-both s t r b listing (files_of files s) (files_of files t) p q)

  -- each file that r covers is covered by s or t
  pub SegmentCovers-cases : (n : ℕ) → SegmentCovers r n → (SegmentCovers s n) ⊎ (SegmentCovers t n)
  SegmentCovers-cases n c = by_place (cases_lt n t.first)
    where
      order : 2 ^ r.order ≡ 2 ^ s.order + 2 ^ s.order
      order = ap (λ k. 2 ^ k) b.order ∙ pow-next s.order

      same : 2 ^ t.order ≡ 2 ^ s.order
      same = ap (λ k. 2 ^ k) h.same_order

      by_place : ((n < t.first) ⊎ (t.first ≤ n)) → (SegmentCovers s n) ⊎ (SegmentCovers t n)
      by_place (inl k) = inl (omega (arith, b.first, c.0), omega (arith, first-of_second, pow_pos s.order))
      by_place (inr k) = inr (k, omega (arith, c.1, order, same, b.first, first-of_second, pow_pos s.order))

  -- r covers each file that s covers
  pub SegmentCovers-of_first : (n : ℕ) → SegmentCovers s n → SegmentCovers r n
  SegmentCovers-of_first n c =
      let order = ap (λ k. 2 ^ k) b.order ∙ pow-next s.order in
      (omega (arith, b.first, c.0), omega (arith, c.1, order, b.first, pow_pos s.order))

  -- r covers each file that t covers
  pub SegmentCovers-of_second : (n : ℕ) → SegmentCovers t n → SegmentCovers r n
  SegmentCovers-of_second n c =
      let order = ap (λ k. 2 ^ k) b.order ∙ pow-next s.order in
      let same = ap (λ k. 2 ^ k) h.same_order in (
        omega (arith, b.first, c.0, first-of_second),
        omega (arith, c.1, order, same, b.first, first-of_second, pow_pos s.order),
      )

  -- if the times of s and t can be written, and those of t are later, the joined times can be written in r
  FitsTimes-joined : (a c : Option SegmentTimes) → FitsTimes s.first s.order s.steps a
      → FitsTimes t.first t.order t.steps c
      → is_later_time (ends_at a) (starts_at c) ≡ true → FitsTimes r.first r.order r.steps (joined_times a c)
  FitsTimes-joined None None f g l = omega (arith, f, g, b.steps)
  FitsTimes-joined None (Some c) f g l =
      let order = ap (λ k. 2 ^ k) b.order ∙ pow-next s.order in
      let same = ap (λ k. 2 ^ k) h.same_order in (
        omega (arith, f, g.0, b.steps),
        omega (arith, g.1, first-of_second, b.first),
        omega (arith, g.2, order, same, b.first, first-of_second, pow_pos s.order),
        g.3,
        g.4,
      )
  FitsTimes-joined (Some a) None f g l =
      let order = ap (λ k. 2 ^ k) b.order ∙ pow-next s.order in (
        omega (arith, f.0, b.steps),
        omega (arith, f.1, b.first),
        omega (arith, f.2, order, b.first, pow_pos s.order),
        f.3,
        f.4,
      )
  FitsTimes-joined (Some a) (Some c) f g l =
      let order = ap (λ k. 2 ^ k) b.order ∙ pow-next s.order in
      let later = ltb-true a.last c.first l in (
        omega (arith, f.0, b.steps),
        omega (arith, f.1, b.first),
        omega (arith, f.2, order, b.first, pow_pos s.order),
        omega (arith, f.3, g.3, later),
        g.4,
      )

  -- if s and t can be written, so can r
  pub FitsSegment-both : (listing : Bool) → FitsSegment listing s → FitsSegment listing t → FitsSegment listing r
  FitsSegment-both listing f g =
      let small : s.steps + t.steps < 2 ^ 64 = rw (← b.steps) b.counts in
      record {
        numbers = record {
          low = rw b.first f.numbers.low;
          few = omega (arith, b.order, h.low);
          aligned = rw (b.first, b.order) h.aligned;
        };
        steps = b.counts;
        opening = rw b.opening f.opening;
        left = rw b.left g.left;
        slots = rw (b.left, b.opening) (g.slots ∙ (ap (λ (v : Levels). v.slots) b.meets.opened ∙ f.slots));
        times = rw b.times (FitsTimes-joined s.times t.times f.times g.times b.meets.later);
        known = rw b.steps (b.known.fits listing 4 t.steps small f.known g.known);
        handshake = rw b.steps (b.handshake.fits listing 147 t.steps small f.handshake g.handshake);
        stability = rw b.steps (b.stability.fits listing 13 t.steps small f.stability g.stability);
        grant = rw b.steps (b.grant.fits listing 35 t.steps small f.grant g.grant);
        acknowledge = rw b.steps (b.acknowledge.fits listing 11 t.steps small f.acknowledge g.acknowledge);
      }
