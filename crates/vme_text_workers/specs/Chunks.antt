-- The steps of a part of a recording, in chunks.
use Rattle.std.specs.Prelude.{◌≡◌, List, [], ◌∷◌, ◌++◌}
use Rattle.vme_trace.specs.Levels.{Levels}
use Rattle.vme_trace.specs.Trace.{Trace, levels_after}
use Rattle.vme_trace.specs.declared.step.Step.{Step}

-- the steps of the chunks, one chunk after the other
abbrev pub steps_in : List Trace → List Step
steps_in [] = []
steps_in (chunk ∷ chunks) = chunk.steps ++ steps_in chunks

-- each chunk opens with the levels to which the chunks before it lead from `levels`
abbrev pub Follow : Levels → List Trace → Type 0
Follow levels [] = Unit {0}
Follow levels (chunk ∷ chunks) = (chunk.opening ≡ levels) × Follow (levels_after levels chunk.steps) chunks

-- the chunks so far open with `opening`, and `left` are the levels after them
pub record AreUnderway (opening : Levels) (chunks : List Trace) (left : Levels) : Type 0 where
  pub follow : Follow opening chunks
  pub left_is : left ≡ levels_after opening (steps_in chunks)
