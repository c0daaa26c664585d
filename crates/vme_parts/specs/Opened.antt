-- A dump's recording as a file of a recording, with a number.
use Rattle.std.specs.Prelude.{ℕ, ◌==◌, Bool, false, not, ◌&&◌, List, [], ◌∷◌, Option, None, Some, if◌then◌else◌}
use Rattle.vme_trace.specs.Levels.{Levels}
use Rattle.vme_trace.specs.Trace.{changed}
use Rattle.vme_trace.specs.declared.step.Step.{Step}

-- the step s is at the first time of the dump, if it has one
abbrev pub is_at : Option ℕ → Step → Bool
is_at None s = false
is_at (Some time) s = s.time == time

-- the step s belongs to the opening of the file `number`
abbrev pub opens : ℕ → Option ℕ → Step → Bool
opens number first_time s = not (number == 0) && is_at first_time s

-- the opening of the file, by the opening and the steps of the dump's recording
abbrev pub opening_of : ℕ → Option ℕ → Levels → List Step → Levels
opening_of number first_time o [] = o
opening_of number first_time o (s ∷ x) = if opens number first_time s then changed o s.changes else o

-- the steps of the file
abbrev pub steps_of : ℕ → Option ℕ → List Step → List Step
steps_of number first_time [] = []
steps_of number first_time (s ∷ x) = if opens number first_time s then x else s ∷ x
