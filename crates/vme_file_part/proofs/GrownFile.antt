-- The segment of one file of a recording, when more steps of the file are given, stands for the file with these steps.
use Rattle.std.proofs.Common.{◌≡◌, ℕ, ◌+◌, ◌<◌, ◌≤◌, ◌^◌, Bool, true, false, List, [], ◌∷◌, ◌++◌, length}
use Rattle.std.proofs.Common.{Option, None, Some, refl, sym, ap, subst, ◌∙◌, arith, append-nil, length-append}
use Rattle.std.specs.Prelude.{if◌then◌else◌, slice_get}
use Rattle.std.specs.Option.{option_map, option_or}
use Rattle.vme_trace.specs.Blocks.{joined_steps}
use Rattle.vme_trace.specs.Followed.{with_steps}
use Rattle.vme_trace.specs.Levels.{Levels}
use Rattle.vme_trace.specs.Trace.{Trace, levels_after}
use Rattle.vme_trace.specs.WellFormed.{malformed_step}
use Rattle.vme_trace.specs.declared.block.Block.{Block}
use Rattle.vme_trace.specs.declared.step.Step.{Step}
use Rattle.vme_trace.proofs.CutBlocks.{levels_after-append}
use Rattle.vme_monitor.specs.KnownRules.{stateless_place}
use Rattle.vme_monitor.specs.Outcome.{Outcome}
use Rattle.vme_monitor.specs.OverStretches.{phase_place}
use Rattle.vme_dtb.specs.MemoryNumbers.{memory_place}
use Rattle.vme_dtb.specs.HoldingNumbers.{holding_place}
use Rattle.vme_chains.specs.GrantMemory.{arbitration_place}
use Rattle.vme_chains.specs.AcknowledgeRules.{acknowledge_memory_place}
use Rattle.vme_summary.specs.Joins.{block_of, first_time, last_time}
use Rattle.vme_summary.specs.Runs.{known_run, handshake_run, stability_run, grant_run, acknowledge_run}
use Rattle.vme_summary.proofs.Sound.{SoundParts-of_well_formed}
use Rattle.vme_summary.proofs.Times.{first_time-append, last_time-append}
use Rattle.vme_part_format.specs.Tables.{SegmentValue, TableValue}
use Rattle.vme_parts.specs.Files.{StandsForFile}
use Rattle.vme_part_format.specs.declared.segment.SegmentTimes.{SegmentTimes}
use Rattle.vme_part_tables.specs.Runs.{AgreesWithRuns, IsComposition}
use Rattle.vme_parts.specs.Buddies.{HasTables}
use Rattle.vme_file_part.specs.Growing.{IsExtended, FileMayGoOn}
use Rattle.vme_parts.specs.Meeting.{ends_at, starts_at}
use Rattle.vme_file_part.specs.FileOf.{file_of}
use Rattle.vme_parts.specs.Opened.{opening_of, opens, steps_of}
use Rattle.vme_parts.proofs.OneFile.{SegmentStandsFor-one_file, first_with_step-one_file}
use Rattle.vme_parts.proofs.OpenedFile.{length-steps_of, malformed_step-of_file}
use Rattle.vme_parts.proofs.Runs.{IsRun-acknowledge, IsRun-grant, IsRun-handshake, IsRun-known, IsRun-stability}
use Rattle.vme_parts.proofs.Runs.{AgreesWithRuns-of_both}
use Rattle.vme_parts.proofs.Standing.{last_time-joined_times, number-joined_times, first_time-joined_times}
use Rattle.vme_file_part.proofs.MarkedNodes.{HaveNodes-extended}

-- ---- what a segment of one file has

-- the segment s stands for the file whose steps are those of the block b
module _ (listing : Bool) (s : SegmentValue) (b : Block) (a : StandsForFile listing s b) where
  -- the steps of the list of one block are those of the block
  joined_steps-one : joined_steps (b ∷ []) ≡ b.steps
  joined_steps-one = append-nil b.steps

  -- the segment has the opening of the block
  pub opening-of_file : s.opening ≡ b.opening
  opening-of_file = let same : Some b.opening ≡ Some s.opening = a.stands.extent.opening in cc

  -- the segment leaves the levels that the steps of the block leave
  pub left-of_file : s.left ≡ levels_after b.opening b.steps
  left-of_file = let same : Some (levels_after b.opening b.steps) ≡ Some s.left = a.stands.extent.left in cc

  -- the segment has as many steps as the block
  pub steps-of_file : s.steps ≡ length b.steps
  steps-of_file = a.stands.counted ∙ ap (λ (l : List Step). length l) joined_steps-one

  -- the segment starts at the time of the first step, if there is one
  starts_at-of_file : starts_at s.times ≡ first_time b.steps
  starts_at-of_file = a.stands.extent.starts ∙ ap first_time joined_steps-one

  -- the segment ends at the time of the last step, if there is one
  ends_at-of_file : ends_at s.times ≡ last_time b.steps
  ends_at-of_file = a.stands.extent.ends ∙ ap last_time joined_steps-one

  -- the number in the times of the segment, if it has steps, is that of the block
  number-of_file : option_map (λ (t : SegmentTimes). t.number) s.times
      ≡ option_map (λ (x : Step). b.number) (slice_get b.steps 0)
  number-of_file = a.stands.numbered ∙ sym (first_with_step-one_file b.number b refl)

  -- the segment satisfies `HasTables`
  pub HasTables-of_file : HasTables s
  HasTables-of_file = record {
    known = record { ways = a.stands.known.ways; counted = a.stands.known.counted };
    handshake = record { ways = a.stands.handshake.ways; counted = a.stands.handshake.counted };
    stability = record { ways = a.stands.stability.ways; counted = a.stands.stability.counted };
    grant = record { ways = a.stands.grant.ways; counted = a.stands.grant.counted };
    acknowledge = record { ways = a.stands.acknowledge.ways; counted = a.stands.acknowledge.counted };
  }

  -- a table that agrees with the runs of the segment agrees with those of the block
  AgreesWithRuns-of_file : {P : Type 0} (run : P → Levels → List Step → Outcome P) (place : P → ℕ) (n : ℕ)
      (u : TableValue)
      → AgreesWithRuns listing n place u (λ p. run p s.opening (joined_steps (b ∷ [])))
      → AgreesWithRuns listing n place u (λ p. run p b.opening b.steps)
  AgreesWithRuns-of_file run place n u h =
      subst (λ (x : List Step). AgreesWithRuns listing n place u (λ p. run p b.opening x)) joined_steps-one
      (subst (λ (o : Levels). AgreesWithRuns listing n place u (λ p. run p o (joined_steps (b ∷ [])))) opening-of_file
      h)

  -- the table of the known levels agrees with the runs of the block
  AgreesWithRuns-known : AgreesWithRuns listing 4 (phase_place stateless_place) s.known
      (λ p. known_run p b.opening b.steps)
  AgreesWithRuns-known = AgreesWithRuns-of_file known_run (phase_place stateless_place) 4 s.known a.stands.known

  -- the table of the handshake agrees with the runs of the block
  AgreesWithRuns-handshake : AgreesWithRuns listing 147 (phase_place memory_place) s.handshake
      (λ p. handshake_run p b.opening b.steps)
  AgreesWithRuns-handshake = AgreesWithRuns-of_file handshake_run (phase_place memory_place) 147 s.handshake
      a.stands.handshake

  -- the table of the held lines agrees with the runs of the block
  AgreesWithRuns-stability : AgreesWithRuns listing 13 (phase_place holding_place) s.stability
      (λ p. stability_run p b.opening b.steps)
  AgreesWithRuns-stability = AgreesWithRuns-of_file stability_run (phase_place holding_place) 13 s.stability
      a.stands.stability

  -- the table of the grants agrees with the runs of the block
  AgreesWithRuns-grant : AgreesWithRuns listing 35 (phase_place arbitration_place) s.grant
      (λ p. grant_run p b.opening b.steps)
  AgreesWithRuns-grant = AgreesWithRuns-of_file grant_run (phase_place arbitration_place) 35 s.grant a.stands.grant

  -- the table of the interrupt acknowledge agrees with the runs of the block
  AgreesWithRuns-acknowledge : AgreesWithRuns listing 11 (phase_place acknowledge_memory_place) s.acknowledge
      (λ p. acknowledge_run p b.opening b.steps)
  AgreesWithRuns-acknowledge = AgreesWithRuns-of_file acknowledge_run (phase_place acknowledge_memory_place) 11
      s.acknowledge a.stands.acknowledge

-- ---- more of its steps

-- n if two lists together have a first step, which is that of the first list, or else of the second
option_map-first_of_both : (n : ℕ) (x y : List Step) → option_map (λ (k : Step). n) (slice_get (x ++ y) 0)
    ≡ option_or (option_map (λ (k : Step). n) (slice_get x 0)) (option_map (λ (k : Step). n) (slice_get y 0))
option_map-first_of_both n [] y = refl
option_map-first_of_both n (k ∷ x) y = refl

module _ (listing : Bool) (s t r : SegmentValue) (number : ℕ) (o : Levels) (x y : List Step)
    (a : StandsForFile listing s (block_of number o x))
    (b : StandsForFile listing t (block_of number (levels_after o x) y)) (e : IsExtended s t r)
    (sound : malformed_step (record { opening = o; steps = x ++ y }) ≡ None)
    (few : length x + length y ≤ 268435456) where
  -- the file with the steps x
  abbrev before : Block
  before = block_of number o x

  -- the steps y after x, as a block of the same number
  abbrev more_steps : Block
  more_steps = block_of number (levels_after o x) y

  -- the steps of both are fewer than 2^64
  length-fits_64_bits : length x + length y < 2 ^ 64
  length-fits_64_bits = omega (arith, few)

  -- the first segment has as many steps as x
  length-first_steps : s.steps ≡ length x
  length-first_steps = steps-of_file listing s before a

  -- the joined segment begins with the number of the file
  first-is_number : r.first ≡ number
  first-is_number = e.first ∙ a.first

  -- the joined segment starts at the first time of x and y
  starts_at-grown : starts_at r.times ≡ first_time (x ++ y)
  starts_at-grown =
      ap starts_at e.times ∙ first_time-joined_times s.times t.times
      ∙ ap (λ (u : Option ℕ). option_or u (starts_at t.times)) (starts_at-of_file listing s before a)
      ∙ ap (λ (u : Option ℕ). option_or (first_time x) u) (starts_at-of_file listing t more_steps b)
      ∙ sym (first_time-append x y)

  -- the joined segment ends at the last time of x and y
  ends_at-grown : ends_at r.times ≡ last_time (x ++ y)
  ends_at-grown =
      ap ends_at e.times ∙ last_time-joined_times s.times t.times
      ∙ ap (λ (u : Option ℕ). option_or u (ends_at s.times)) (ends_at-of_file listing t more_steps b)
      ∙ ap (λ (u : Option ℕ). option_or (last_time y) u) (ends_at-of_file listing s before a)
      ∙ sym (last_time-append x y)

  -- the number of the file, if there are steps
  abbrev number_at : List Step → Option ℕ
  number_at l = option_map (λ (k : Step). number) (slice_get l 0)

  -- the number in the times of a segment, if it has any
  abbrev number_in : Option SegmentTimes → Option ℕ
  number_in times = option_map (λ (k : SegmentTimes). k.number) times

  -- the joined segment has the number of the file in its times, if there are steps
  number_in-grown : number_in r.times ≡ number_at (x ++ y)
  number_in-grown =
      ap number_in e.times ∙ number-joined_times s.times t.times
      ∙ ap (λ (u : Option ℕ). option_or u (number_in t.times)) (number-of_file listing s before a)
      ∙ ap (λ (u : Option ℕ). option_or (number_at x) u) (number-of_file listing t more_steps b)
      ∙ sym (option_map-first_of_both number x y)

  -- the joined segment leaves the levels that x and y leave
  left-grown : r.left ≡ levels_after o (x ++ y)
  left-grown = e.left ∙ left-of_file listing t more_steps b ∙ sym (levels_after-append o x y)

  -- the joined segment stands for the file with the steps x and y
  pub StandsForFile-grown : StandsForFile listing r (block_of number o (x ++ y))
  StandsForFile-grown = record {
    first = first-is_number;
    order = e.order ∙ a.order;
    stands = SegmentStandsFor-one_file listing r (block_of number o (x ++ y)) sound first-is_number (e.order ∙ a.order)
        (omega (arith, e.steps, length-first_steps, steps-of_file listing t more_steps b, length-append x y))
        (e.opening ∙ opening-of_file listing s before a) left-grown starts_at-grown ends_at-grown
        (number_in-grown ∙ ap (λ (n : ℕ). option_map (λ (k : Step). n) (slice_get (x ++ y) 0)) (sym first-is_number))
        (AgreesWithRuns-of_both known_run IsRun-known (phase_place stateless_place) listing 4 o (levels_after o x) x y
        s.known t.known r.known refl length-fits_64_bits
        (subst (λ (n : ℕ). IsComposition n s.known t.known r.known) length-first_steps e.known)
        (AgreesWithRuns-known listing s before a) (AgreesWithRuns-known listing t more_steps b))
        (AgreesWithRuns-of_both handshake_run IsRun-handshake (phase_place memory_place) listing 147 o
        (levels_after o x) x y
        s.handshake t.handshake r.handshake refl length-fits_64_bits
        (subst (λ (n : ℕ). IsComposition n s.handshake t.handshake r.handshake) length-first_steps e.handshake)
        (AgreesWithRuns-handshake listing s before a) (AgreesWithRuns-handshake listing t more_steps b))
        (AgreesWithRuns-of_both stability_run IsRun-stability (phase_place holding_place) listing 13 o
        (levels_after o x) x y
        s.stability t.stability r.stability refl length-fits_64_bits
        (subst (λ (n : ℕ). IsComposition n s.stability t.stability r.stability) length-first_steps e.stability)
        (AgreesWithRuns-stability listing s before a) (AgreesWithRuns-stability listing t more_steps b))
        (AgreesWithRuns-of_both grant_run IsRun-grant (phase_place arbitration_place) listing 35 o (levels_after o x) x
        y
        s.grant t.grant r.grant refl length-fits_64_bits
        (subst (λ (n : ℕ). IsComposition n s.grant t.grant r.grant) length-first_steps e.grant)
        (AgreesWithRuns-grant listing s before a) (AgreesWithRuns-grant listing t more_steps b))
        (AgreesWithRuns-of_both acknowledge_run IsRun-acknowledge (phase_place acknowledge_memory_place) listing 11 o
        (levels_after o x) x y s.acknowledge t.acknowledge r.acknowledge refl length-fits_64_bits
        (subst (λ (n : ℕ). IsComposition n s.acknowledge t.acknowledge r.acknowledge) length-first_steps e.acknowledge)
        (AgreesWithRuns-acknowledge listing s before a) (AgreesWithRuns-acknowledge listing t more_steps b));
    nodes = HaveNodes-extended listing s t r e a.nodes b.nodes;
  }

-- if the steps x and then y are well-formed, so are the steps y from the levels after x
pub malformed_step-rest : (o v : Levels) (x y : List Step) → v ≡ levels_after o x
    → malformed_step (record { opening = o; steps = x ++ y }) ≡ None
    → malformed_step (record { opening = v; steps = y }) ≡ None
malformed_step-rest o v x y is sound =
    subst (λ (w : Levels). malformed_step (record { opening = w; steps = y }) ≡ None) (sym is)
    (SoundParts-of_well_formed o x y sound).second

-- ---- a dump's recording with more steps

-- the opening of the file depends on the first step alone
pub opening_of-append : (number : ℕ) (start : Option ℕ) (o : Levels) (x y : List Step) → 0 < length x
    → opening_of number start o (x ++ y) ≡ opening_of number start o x
opening_of-append number start o [] y some = absurd (omega arith)
opening_of-append number start o (k ∷ x) y some = refl

-- after a first step, more steps are added to those of the file as they are
pub steps_of-append : (number : ℕ) (start : Option ℕ) (x y : List Step) → 0 < length x
    → steps_of number start (x ++ y) ≡ steps_of number start x ++ y
steps_of-append number start [] y some = absurd (omega arith)
steps_of-append number start (k ∷ x) y some = by_case (opens number start k)
  where
    by_case : (c : Bool) → (if c then x ++ y else k ∷ (x ++ y)) ≡ (if c then x else k ∷ x) ++ y
    by_case true = refl
    by_case false = refl

module _ (number : ℕ) (start : Option ℕ) (t : Trace) (y : List Step) (some : 0 < length t.steps) where
  -- the opening of the file
  abbrev o : Levels
  o = opening_of number start t.opening t.steps

  -- the steps of the file
  abbrev x : List Step
  x = steps_of number start t.steps

  -- the file with more steps has the same opening, and the steps of both
  pub file_of-append : file_of number start (with_steps t y) ≡ block_of number o (x ++ y)
  file_of-append =
      ap (λ (v : Levels). block_of number v (steps_of number start (t.steps ++ y)))
      (opening_of-append number start t.opening t.steps y some)
      ∙ ap (λ (l : List Step). block_of number o l) (steps_of-append number start t.steps y some)

  -- if the recording may go on with the steps y, so may the file
  pub FileMayGoOn-append : FileMayGoOn t y → FileMayGoOn (record { opening = o; steps = x }) y
  FileMayGoOn-append may = record {
    formed = subst (λ (b : Block). malformed_step (record { opening = b.opening; steps = b.steps }) ≡ None)
        file_of-append (malformed_step-of_file number start t.opening (t.steps ++ y) may.formed);
    few = omega (arith, may.few, length-steps_of number start t.steps);
  }
