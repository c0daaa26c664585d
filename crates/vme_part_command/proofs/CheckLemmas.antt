-- The steps of one file are counted and judged as they are read: what is pending, and what holds when all have been
-- judged.
use Rattle.std.proofs.Common.{◌≡◌, ℕ, ◌+◌, ◌-◌, ◌*◌, ◌^◌, ◌≤◌, Bool, List, ◌++◌, length, Option, arith, length-append}
use Rattle.std.proofs.Common.{append_assoc, ap, sym, subst, ◌∙◌, take, drop, take-append-drop}
use Rattle.vme_trace.specs.Trace.{Trace}
use Rattle.vme_trace.specs.Followed.{with_steps}
use Rattle.vme_trace.specs.WellFormed.{capture_limit, malformed_step}
use Rattle.vme_trace.specs.declared.step.Step.{Step}
use Rattle.std.specs.Prelude.{None, min}
use Rattle.vme_parts.specs.NodeCounts.{tables_for}
use Rattle.vme_file_part.specs.Growing.{AreTooManyNodes, FileHasNodesAtMost, FileMayGoOn, IsFileSoFar}
use Rattle.vme_file_part.specs.declared.file_so_far.FileSoFar.{FileSoFar}
use Rattle.vme_summary.proofs.Sound.{SoundParts-of_well_formed}
use Rattle.vme_dump_input.specs.StepCounts.{IsStepCount}
use Rattle.vme_dump_input.proofs.StepCounts.{IsStepCount-append}
use Rattle.vme_part_command.specs.FileChecks.{HasFewNodes, HasTakenSteps, IsPending, MayBeJudged}
use Rattle.vme_part_command.specs.declared.file_check.FileCheck.{FileCheck}

module _ (number : ℕ) (listing : Bool) (start : Option ℕ) (file : FileSoFar) (pending : List Step) where
  module _ (t : Trace) (p : IsPending number listing start file pending t) where
    -- `IsPending` holds with `steps` added to the pending steps
    pub IsPending-append : (steps : List Step)
        → IsPending number listing start file (pending ++ steps) (with_steps t steps)
    IsPending-append steps = record {
      judged = p.judged;
      all = ap (λ (l : List Step). record p.judged { steps = l }) (sym (append_assoc p.judged.steps pending steps))
          ∙ ap (λ (u : Trace). with_steps u steps) p.all;
      so_far = p.so_far;
      few = p.few;
    }

    -- if t may be judged, the judged steps may go on with the pending ones
    pub FileMayGoOn-all_pending : MayBeJudged t → FileMayGoOn p.judged pending
    FileMayGoOn-all_pending may = record {
      formed = ap malformed_step p.all ∙ may.formed;
      few = omega (
        arith,
        may.few,
        ap (λ (u : Trace). length u.steps) p.all,
        length-append p.judged.steps pending,
      );
    }

    module _ (n : ℕ) where
      -- the steps that were judged, the first n pending ones and the others are those of t
      with_steps-judged_and_pending : with_steps (with_steps p.judged (take n pending)) (drop n pending) ≡ t
      with_steps-judged_and_pending =
          ap (λ (l : List Step). record p.judged { steps = l })
          (append_assoc p.judged.steps (take n pending) (drop n pending)
          ∙ ap (λ (l : List Step). p.judged.steps ++ l) (take-append-drop n pending))
          ∙ p.all

      -- if t may be judged, the judged steps may go on with the first n pending ones
      pub FileMayGoOn-first_pending : MayBeJudged t → FileMayGoOn p.judged (take n pending)
      FileMayGoOn-first_pending may = record {
        formed = (SoundParts-of_well_formed p.judged.opening (p.judged.steps ++ take n pending) (drop n pending)
            (ap malformed_step with_steps-judged_and_pending ∙ may.formed)).first;
        few = omega (
          arith,
          may.few,
          ap (λ (u : Trace). length u.steps) with_steps-judged_and_pending,
          length-append (p.judged.steps ++ take n pending) (drop n pending),
          length-append p.judged.steps (take n pending),
        );
      }

      -- after judging the first n pending steps, the others are pending
      pub IsPending-after_judging : (next : FileSoFar)
          → IsFileSoFar number listing start next (with_steps p.judged (take n pending))
          → HasFewNodes next (with_steps p.judged (take n pending))
          → IsPending number listing start next (drop n pending) t
      IsPending-after_judging next so_far few = record {
        judged = with_steps p.judged (take n pending);
        all = with_steps-judged_and_pending;
        so_far = so_far;
        few = few;
      }

-- ---- the nodes of a file

-- a file with few nodes that goes on within the limit doesn't have too many
pub not_too_many-within_limit : (k : ℕ) (t : Trace) (steps : List Step) → 16384 * k ≤ 18 * length t.steps
    → FileMayGoOn t steps
    → AreTooManyNodes (k + tables_for (length steps)) → ⊥
not_too_many-within_limit k t steps few may many = omega (arith, few, may.few, many)

-- a file with few nodes that goes on with a batch has few nodes
pub HasFewNodes-batch : (k : ℕ) (file : FileSoFar) (t : Trace) (steps : List Step)
    → 16384 * k ≤ 18 * length t.steps
    → length steps ≡ 16384 → FileHasNodesAtMost (k + tables_for (length steps)) file
    → HasFewNodes file (with_steps t steps)
HasFewNodes-batch k file t steps few whole most =
    (k + tables_for (length steps), omega (arith, few, whole, length-append t.steps steps), most)

-- ---- the steps that are counted

-- after judging all pending steps, `next` is the file with all steps of t
pub IsFileSoFar-all : (number : ℕ) (listing : Bool) (start : Option ℕ) (file next : FileSoFar)
    (pending : List Step)
    (t : Trace) (p : IsPending number listing start file pending t)
    → IsFileSoFar number listing start next (with_steps p.judged pending)
    → IsFileSoFar number listing start next t
IsFileSoFar-all number listing start file next pending t p so_far =
    subst (IsFileSoFar number listing start next) p.all so_far

-- `steps` are counted with those of t, of which the pending ones aren't judged, and aren't too many
pub record IsCounted (number : ℕ) (listing : Bool) (start : Option ℕ) (check : FileCheck) (t : Trace)
    (steps : List Step) (total : ℕ) : Type 0 where
  pub count : IsStepCount total (t.steps ++ steps)
  pub pending : IsPending number listing start check.file check.pending.items t
  pub may : MayBeJudged (with_steps t steps)

-- `steps` are counted where they are added to the count of a check that was given the steps of t
pub IsCounted-few : (number : ℕ) (listing : Bool) (start : Option ℕ) (check : FileCheck) (t : Trace)
    (steps : List Step) (more total : ℕ)
    → HasTakenSteps number listing start check t → malformed_step (with_steps t steps) ≡ None → more ≡ length steps
    → total ≡ min (check.count + more) (2 ^ 64 - 1) → total ≤ capture_limit
    → IsCounted number listing start check t steps total
IsCounted-few number listing start check t steps more total h formed all sum few =
    let count = IsStepCount-append t.steps steps check.count more total h.0 all sum in
    let short : length (t.steps ++ steps) ≤ capture_limit = omega (arith, count, few) in
    record {
      count = count;
      pending = h.1 (omega (arith, short, length-append t.steps steps));
      may = record { formed = formed; few = short };
    }
