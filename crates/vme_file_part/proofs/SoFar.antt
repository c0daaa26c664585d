-- The segment of a file so far: before the first step of the file there is none, and after a step it stands for the
-- file as far as it was given.
use Rattle.std.proofs.Common.{◌≡◌, ℕ, ◌<◌, Bool, List, [], ◌∷◌, ◌++◌, length, Option, None, Some, sym}
use Rattle.std.proofs.Common.{ap, subst, ◌∙◌, arith, length-append}
use Rattle.vme_trace.specs.Followed.{with_steps}
use Rattle.vme_trace.specs.Levels.{Levels}
use Rattle.vme_trace.specs.Trace.{Trace}
use Rattle.vme_trace.specs.WellFormed.{malformed_step}
use Rattle.vme_trace.specs.declared.block.Block.{Block}
use Rattle.vme_trace.specs.declared.step.Step.{Step}
use Rattle.vme_summary.specs.Joins.{block_of}
use Rattle.vme_part_format.specs.Tables.{PartValue, SegmentValue, segment_value}
use Rattle.vme_part_format.specs.declared.segment.Segment.{Segment}
use Rattle.vme_parts.specs.Files.{IsPartOfFile, StandsForFile}
use Rattle.vme_file_part.specs.Growing.{IsFileSoFar, IsFoundOfFile, IsFoundIn, FileMayGoOn}
use Rattle.vme_file_part.specs.FileOf.{file_of}
use Rattle.vme_parts.specs.Opened.{opening_of, steps_of}
use Rattle.vme_parts.proofs.OneFile.{IsPartOfFile-one}
use Rattle.vme_file_part.specs.declared.file_so_far.FileSoFar.{FileSoFar}
use Rattle.vme_file_part.proofs.GrownFile.{file_of-append, FileMayGoOn-append}

module _ (number : ℕ) (listing : Bool) (start : Option ℕ) (opening : Levels) (segment : Option Segment) (t : Trace)
    (h : IsFoundIn number listing start opening segment t) where
  -- ---- after a step was given

  module _ (s : Segment) (is : segment ≡ Some s) where
    -- the segment is what was found of the file
    IsFoundOfFile-some : IsFoundOfFile number listing start (Some s) t
    IsFoundOfFile-some = subst (λ (o : Option Segment). IsFoundOfFile number listing start o t) is h.found

    -- the segment stands for the file so far
    pub StandsForFile-so_far : StandsForFile listing (segment_value s) (file_of number start t)
    StandsForFile-so_far = IsFoundOfFile-some.1

    -- if the recording may go on with the steps y, so may the file so far
    pub FileMayGoOn-so_far : (y : List Step) → FileMayGoOn t y
        → FileMayGoOn (record {
          opening = opening_of number start t.opening t.steps;
          steps = steps_of number start t.steps;
        }) y
    FileMayGoOn-so_far y may = FileMayGoOn-append number start t y IsFoundOfFile-some.0 may

    -- a segment that stands for the file with the steps y is what is found of it then
    pub IsFoundOfFile-with_steps : (y : List Step) (next : Segment)
        → StandsForFile listing (segment_value next) (block_of number (opening_of number start t.opening t.steps)
        (steps_of number start t.steps ++ y)) → IsFoundOfFile number listing start (Some next) (with_steps t y)
    IsFoundOfFile-with_steps y next stands = (
      omega (arith, IsFoundOfFile-some.0, length-append t.steps y),
      subst (StandsForFile listing (segment_value next)) (sym (file_of-append number start t y IsFoundOfFile-some.0))
          stands,
    )

  -- ---- before the first step

  module _ (is : segment ≡ None) where
    -- no step was given
    steps-none : t.steps ≡ []
    steps-none = subst (λ (o : Option Segment). IsFoundOfFile number listing start o t) is h.found

    -- the recording with its first steps has the opening of the dump, and these
    trace-first_steps : (y : List Step) → record { opening = opening; steps = y } ≡ with_steps t y
    trace-first_steps y =
        ap (λ (o : Levels). record { opening = o; steps = y }) h.opened
        ∙ ap (λ (l : List Step). record { opening = t.opening; steps = l ++ y }) (sym steps-none)

    -- if the recording may go on with its first steps, so may one of the opening alone
    pub FileMayGoOn-first_steps : (y : List Step) → FileMayGoOn t y
        → FileMayGoOn (record { opening = opening; steps = [] }) y
    FileMayGoOn-first_steps y may = record {
      formed = ap malformed_step (trace-first_steps y) ∙ may.formed;
      few = omega (arith, may.few);
    }

    -- a segment that stands for the file of the first steps is what is found of it then
    pub IsFoundOfFile-first_steps : (y : List Step) (next : Segment) → 0 < length y
        → StandsForFile listing (segment_value next) (file_of number start (record { opening = opening; steps = y }))
        → IsFoundOfFile number listing start (Some next) (with_steps t y)
    IsFoundOfFile-first_steps y next some stands = (
      omega (arith, some, length-append t.steps y),
      subst (StandsForFile listing (segment_value next)) (ap (file_of number start) (trace-first_steps y)) stands,
    )

    -- the recording has the opening of the dump, and no steps
    trace-without_steps : record { opening = opening; steps = [] } ≡ t
    trace-without_steps =
        ap (λ (o : Levels). record { opening = o; steps = [] }) h.opened
        ∙ ap (λ (l : List Step). record { opening = t.opening; steps = l }) (sym steps-none)

    -- if the recording is well formed, that of the opening alone is
    pub malformed_step-without_steps : malformed_step t ≡ None
        → malformed_step (record { opening = opening; steps = [] }) ≡ None
    malformed_step-without_steps sound = ap malformed_step trace-without_steps ∙ sound

    -- without any step, a segment of the dump's opening and no steps stands for the file
    pub StandsForFile-without_steps : (s : SegmentValue) → StandsForFile listing s (block_of number opening [])
        → StandsForFile listing s (file_of number start t)
    StandsForFile-without_steps s stands =
        subst (StandsForFile listing s) (ap (file_of number start) trace-without_steps) stands

-- ---- a file has its number, its first time, and marks or none

module _ (number : ℕ) (listing : Bool) (start : Option ℕ) (f : FileSoFar) (t : Trace)
    (h : IsFileSoFar number listing start f t) where
  -- the segment of a file so far is what was found by the number, the first time and the listing that the file has
  pub IsFoundIn-file : IsFoundIn f.number f.listing f.first_time f.opening f.segment t
  IsFoundIn-file =
      subst (λ (n : ℕ). IsFoundIn n f.listing f.first_time f.opening f.segment t) (sym h.number_is)
      (subst (λ (l : Bool). IsFoundIn number l f.first_time f.opening f.segment t) (sym h.listing_is)
      (subst (λ (s : Option ℕ). IsFoundIn number listing s f.opening f.segment t) (sym h.first_time_is) h.found))

  -- a segment that is found by what the file has is found by its number, first time and listing
  pub IsFoundOfFile-file : (s : Segment) (u : Trace) → IsFoundOfFile f.number f.listing f.first_time (Some s) u
      → IsFoundOfFile number listing start (Some s) u
  IsFoundOfFile-file s u found =
      subst (λ (n : ℕ). IsFoundOfFile n listing start (Some s) u) h.number_is
      (subst (λ (l : Bool). IsFoundOfFile f.number l start (Some s) u) h.listing_is
      (subst (λ (o : Option ℕ). IsFoundOfFile f.number f.listing o (Some s) u) h.first_time_is found))

  -- a part whose only segment stands for the file is the part of the file
  pub IsPartOfFile-file : (s : SegmentValue) (p : PartValue)
      → StandsForFile f.listing s (file_of f.number f.first_time t) → p.segments ≡ s ∷ []
      → IsPartOfFile listing (file_of number start t) p
  IsPartOfFile-file s p stands one =
      subst (λ (l : Bool). IsPartOfFile l (file_of number start t) p) h.listing_is
      (subst (λ (b : Block). IsPartOfFile f.listing b p)
      (ap (λ (n : ℕ). file_of n f.first_time t) h.number_is ∙ ap (λ (o : Option ℕ). file_of number o t) h.first_time_is)
      (IsPartOfFile-one f.listing (file_of f.number f.first_time t) s p stands one))
