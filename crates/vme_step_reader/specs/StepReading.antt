-- How far the text of a dump is read, whose steps are returned as they become complete.
use Rattle.std.specs.Prelude.{◌≡◌, ℕ, List, []}
use Rattle.vme_trace.specs.Followed.{with_steps}
use Rattle.vme_trace.specs.Trace.{Trace}
use Rattle.vme_trace.specs.declared.step.Step.{Step}
use Rattle.vcd_read.specs.Tokens.{tokens_from}
use Rattle.vme_bind.specs.SpeculativeReading.{SpeculativeReached, with_recording}
use Rattle.vme_bind.specs.TextReading.{TextReading, reading_ahead}

-- The recording of the instants that are complete so far, and how far the body is read.
pub record StepReading : Type 0 where
  pub given : Trace
  pub speculative : SpeculativeReached

-- the result of reading the whole text, if `bytes` follow
abbrev pub whole_reading : StepReading → List ℕ → TextReading
whole_reading r bytes = reading_ahead (with_recording r.given r.speculative)
    (tokens_from r.speculative.body.line bytes) []

-- `steps` are still to come, if `bytes` follow
abbrev pub AreToCome : StepReading → List ℕ → List Step → Type 0
AreToCome r bytes steps = (whole_reading r bytes).recorded ≡ with_steps r.given steps
