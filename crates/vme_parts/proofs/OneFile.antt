-- The segment of one file.
use Rattle.std.proofs.Common.{◌≡◌, ℕ, ◌+◌, ◌-◌, ◌<◌, Bool, List, [], ◌∷◌, ◌++◌, length}
use Rattle.std.proofs.Common.{take, refl, ap, sym}
use Rattle.std.proofs.Common.{◌∙◌, arith, append-nil, Some, None}
use Rattle.std.proofs.lemmas.List.Elements.{All-cons, All-nil, All-same}
use Rattle.std.specs.Prelude.{All, slice_get}
use Rattle.std.specs.Option.{option_map}
use Rattle.vme_trace.specs.Block.{trace_of}
use Rattle.vme_trace.specs.Blocks.{joined_steps}
use Rattle.vme_trace.specs.Levels.{Levels}
use Rattle.vme_trace.specs.Trace.{changed, levels_after}
use Rattle.vme_trace.specs.WellFormed.{malformed_step}
use Rattle.vme_trace.specs.declared.block.Block.{Block}
use Rattle.vme_trace.specs.declared.step.Step.{Step}
use Rattle.vme_trace.proofs.ListLaws.{last_or-slice_get}
use Rattle.vme_monitor.specs.KnownRules.{stateless_place}
use Rattle.vme_monitor.specs.OverStretches.{phase_place}
use Rattle.vme_trace.proofs.CutBlocks.{levels_after-append}
use Rattle.vme_dtb.specs.MemoryNumbers.{memory_place}
use Rattle.vme_dtb.specs.HoldingNumbers.{holding_place}
use Rattle.vme_chains.specs.GrantMemory.{arbitration_place}
use Rattle.vme_chains.specs.AcknowledgeRules.{acknowledge_memory_place}
use Rattle.vme_summary.specs.Extents.{IsExtent}
use Rattle.vme_summary.specs.Joins.{first_time, last_time}
use Rattle.vme_summary.specs.Runs.{known_run, handshake_run, stability_run, grant_run, acknowledge_run}
use Rattle.vme_summary.proofs.Extents.{BlocksJoin-one, AreSound-one}
use Rattle.vme_part_format.specs.Tables.{PartValue, SegmentValue, last_of}
use Rattle.vme_part_format.specs.declared.segment.SegmentTimes.{SegmentTimes}
use Rattle.vme_part_tables.specs.Runs.{AgreesWithRuns}
use Rattle.vme_parts.specs.Files.{IsPartOfFile, StandsForFile}
use Rattle.vme_parts.specs.Meeting.{ends_at, starts_at}
use Rattle.vme_parts.specs.Stands.{SegmentStandsFor, extent_of, first_with_step}

-- the time of the step with the last index is the last time
pub last_time-last_step : (xs : List Step) (x : Step) → slice_get xs (length xs - 1) ≡ Some x → Some x.time
    ≡ last_time xs
last_time-last_step xs x e = ap (option_map (λ (s : Step). s.time)) (sym e ∙ sym (last_or-slice_get xs))

-- without a first step there is no last time
pub last_time-no_steps : (xs : List Step) → slice_get xs 0 ≡ None → None ≡ last_time xs
last_time-no_steps [] e = refl
last_time-no_steps (x ∷ xs) e = absurd (cc)

-- the levels after k + 1 steps are those after k steps with the changes of the step k
pub levels_after-take_next : (o : Levels) (xs : List Step) (k : ℕ) (x : Step) → k < length xs → take (k + 1) xs
    ≡ take k xs ++ x ∷ []
    → changed (levels_after o (take k xs)) x.changes ≡ levels_after o (take (k + 1) xs)
levels_after-take_next o xs k x h e =
    sym (ap (levels_after o) e ∙ levels_after-append o (take k xs) (x ∷ []))

-- P holds of each element of a list of one, if it holds of the one
pub All-one : {A : Type 0} (P : A → Type 0) (x : A) (xs : List A) → xs ≡ x ∷ [] → P x → All P xs
All-one P x xs one h = All-same P xs (x ∷ []) one (All-cons P x [] h (All-nil P))

-- a part whose only segment stands for the file b is the part of b
pub IsPartOfFile-one : (listing : Bool) (b : Block) (s : SegmentValue) (p : PartValue) → StandsForFile listing s b
    → p.segments ≡ s ∷ [] → IsPartOfFile listing b p
IsPartOfFile-one listing b s p stands one = (s, one, stands.first, stands.stands)

-- the file b is the first with a step if it has one
pub first_with_step-one_file : (number : ℕ) (b : Block) → b.number ≡ number
    → option_map (λ (s : Step). number) (slice_get b.steps 0) ≡ first_with_step (b ∷ [])
first_with_step-one_file number b e = by_steps b.steps refl
  where
    by_steps : (xs : List Step) → b.steps ≡ xs → option_map (λ (s : Step). number) (slice_get b.steps 0)
        ≡ first_with_step (b ∷ [])
    by_steps [] f = rw f refl
    by_steps (x ∷ xs) f = rw f (ap Some (sym e))

-- s has the number, the levels, the times and the count of the steps of the well-formed file b
module _ (listing : Bool) (s : SegmentValue) (b : Block) (accepted : malformed_step (trace_of b) ≡ None)
    (first : s.first ≡ b.number) (order : s.order ≡ 0) (steps : s.steps ≡ length b.steps)
    (opening : s.opening ≡ b.opening)
    (left : s.left ≡ levels_after b.opening b.steps) (starts : starts_at s.times ≡ first_time b.steps)
    (ends : ends_at s.times ≡ last_time b.steps)
    (numbered : option_map (λ (t : SegmentTimes). t.number) s.times
    ≡ option_map (λ (x : Step). s.first) (slice_get b.steps 0)) where
  -- the steps of one file are its own
  joined_steps-one_file : joined_steps (b ∷ []) ≡ b.steps
  joined_steps-one_file = append-nil b.steps

  -- the extent of s is that of the file b
  IsExtent-one_file : IsExtent (extent_of s) (b ∷ [])
  IsExtent-one_file =
      let last : last_of s.first s.order ≡ b.number = rw order (omega (arith, first)) in
      record {
        join = BlocksJoin-one b;
        sound = AreSound-one b accepted;
        first = ap Some (sym first);
        last = ap Some (sym last);
        opening = ap Some (sym opening);
        left = ap Some (sym left);
        starts = starts ∙ ap first_time (sym joined_steps-one_file);
        ends = ends ∙ ap last_time (sym joined_steps-one_file);
      }

  -- if the tables of s agree with the monitors' runs over the steps of b, s stands for b
  pub SegmentStandsFor-one_file :
      AgreesWithRuns listing 4 (phase_place stateless_place) s.known (λ p. known_run p b.opening b.steps)
      → AgreesWithRuns listing 147 (phase_place memory_place) s.handshake (λ p. handshake_run p b.opening b.steps)
      → AgreesWithRuns listing 13 (phase_place holding_place) s.stability (λ p. stability_run p b.opening b.steps)
      → AgreesWithRuns listing 35 (phase_place arbitration_place) s.grant (λ p. grant_run p b.opening b.steps)
      → AgreesWithRuns listing 11 (phase_place acknowledge_memory_place) s.acknowledge
      (λ p. acknowledge_run p b.opening b.steps) → SegmentStandsFor listing s (b ∷ [])
  SegmentStandsFor-one_file known handshake stability grant acknowledge =
      record {
        extent = IsExtent-one_file;
        as_many = rw order refl;
        numbered = numbered ∙ first_with_step-one_file s.first b (sym first);
        counted = steps ∙ ap (λ (xs : List Step). length xs) (sym joined_steps-one_file);
        known = rw (opening, joined_steps-one_file) known;
        handshake = rw (opening, joined_steps-one_file) handshake;
        stability = rw (opening, joined_steps-one_file) stability;
        grant = rw (opening, joined_steps-one_file) grant;
        acknowledge = rw (opening, joined_steps-one_file) acknowledge;
      }
