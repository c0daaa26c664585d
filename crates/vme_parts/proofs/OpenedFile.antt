-- The file with a number that a dump's recording makes: it is well-formed if the recording is, and has no more steps.
use Rattle.std.proofs.Common.{◌≡◌, ℕ, ◌≤◌, Bool, true, false, List, [], ◌∷◌, length, arith, Option, None, if◌then◌else◌}
use Rattle.vme_trace.specs.Levels.{Levels}
use Rattle.vme_trace.specs.Trace.{changed}
use Rattle.vme_trace.specs.WellFormed.{malformed_step}
use Rattle.vme_trace.specs.declared.step.Step.{Step}
use Rattle.vme_summary.proofs.Sound.{SoundParts-of_well_formed}
use Rattle.vme_parts.specs.Opened.{opening_of, opens, steps_of}

-- if the recording with the opening o and the steps x is well-formed, so is the file with a number
pub malformed_step-of_file : (number : ℕ) (time : Option ℕ) (o : Levels) (x : List Step)
    → malformed_step (record { opening = o; steps = x }) ≡ None
    → malformed_step (record { opening = opening_of number time o x; steps = steps_of number time x }) ≡ None
malformed_step-of_file number time o [] sound = sound
malformed_step-of_file number time o (s ∷ x) sound = by_case (opens number time s)
  where
    by_case : (b : Bool)
        → malformed_step (record {
          opening = if b then changed o s.changes else o;
          steps = if b then x else s ∷ x;
        }) ≡ None
    by_case true = (SoundParts-of_well_formed o (s ∷ []) x sound).second
    by_case false = sound

-- the file has no more steps than the recording
pub length-steps_of : (number : ℕ) (time : Option ℕ) (x : List Step) → length (steps_of number time x) ≤ length x
length-steps_of number time [] = omega arith
length-steps_of number time (s ∷ x) = by_case (opens number time s)
  where
    by_case : (b : Bool) → length (if b then x else s ∷ x) ≤ length (s ∷ x)
    by_case true = omega arith
    by_case false = omega arith
