-- When a segment stands for files.
use Rattle.std.specs.Prelude.{◌≡◌, ℕ, ◌^◌, Bool, true, false, List, [], ◌∷◌, length, Option, find, not}
use Rattle.std.specs.Option.{option_map}
use Rattle.vme_trace.specs.Blocks.{joined_steps}
use Rattle.vme_trace.specs.declared.block.Block.{Block}
use Rattle.vme_trace.specs.declared.step.Step.{Step}
use Rattle.vme_monitor.specs.KnownRules.{stateless_place}
use Rattle.vme_monitor.specs.OverStretches.{phase_place}
use Rattle.vme_dtb.specs.MemoryNumbers.{memory_place}
use Rattle.vme_dtb.specs.HoldingNumbers.{holding_place}
use Rattle.vme_chains.specs.GrantMemory.{arbitration_place}
use Rattle.vme_chains.specs.AcknowledgeRules.{acknowledge_memory_place}
use Rattle.vme_summary.specs.Extents.{IsExtent}
use Rattle.vme_summary.specs.Runs.{known_run, handshake_run, stability_run, grant_run, acknowledge_run}
use Rattle.vme_summary.specs.declared.extent.Extent.{Extent}
use Rattle.vme_part_format.specs.Tables.{SegmentValue, last_of}
use Rattle.vme_part_format.specs.declared.segment.SegmentTimes.{SegmentTimes}
use Rattle.vme_part_tables.specs.Runs.{AgreesWithRuns}

-- the numbers of a segment's first and last file, its levels before and after, and its first and last time
abbrev pub extent_of : SegmentValue → Extent
extent_of s =
    record {
      first = s.first;
      last = last_of s.first s.order;
      opening = s.opening;
      left = s.left;
      starts = option_map (λ (t : SegmentTimes). t.first) s.times;
      ends = option_map (λ (t : SegmentTimes). t.last) s.times;
    }

-- there are no steps
abbrev pub is_empty : List Step → Bool
is_empty [] = true
is_empty (s ∷ ss) = false

-- the number of the first of the files bs that has a step
abbrev pub first_with_step : List Block → Option ℕ
first_with_step bs = option_map (λ (b : Block). b.number) (find (λ (b : Block). not (is_empty b.steps)) bs)

-- s stands for the files bs, which follow one another: it has their extent, as many files, the number of the first that
-- has a step and the count of their steps, and its tables agree with the monitors' runs over these steps from each
-- memory
pub record SegmentStandsFor (listing : Bool) (s : SegmentValue) (bs : List Block) : Type 0 where
  pub extent : IsExtent (extent_of s) bs
  pub as_many : length bs ≡ 2 ^ s.order
  pub numbered : option_map (λ (t : SegmentTimes). t.number) s.times ≡ first_with_step bs
  pub counted : s.steps ≡ length (joined_steps bs)
  pub known : AgreesWithRuns listing 4 (phase_place stateless_place) s.known
      (λ p. known_run p s.opening (joined_steps bs))
  pub handshake : AgreesWithRuns listing 147 (phase_place memory_place) s.handshake
      (λ p. handshake_run p s.opening (joined_steps bs))
  pub stability : AgreesWithRuns listing 13 (phase_place holding_place) s.stability
      (λ p. stability_run p s.opening (joined_steps bs))
  pub grant : AgreesWithRuns listing 35 (phase_place arbitration_place) s.grant
      (λ p. grant_run p s.opening (joined_steps bs))
  pub acknowledge : AgreesWithRuns listing 11 (phase_place acknowledge_memory_place) s.acknowledge
      (λ p. acknowledge_run p s.opening (joined_steps bs))
