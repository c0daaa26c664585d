-- A recording that is judged as its steps come.
use Rattle.std.specs.Prelude.{◌≡◌, ℕ, ◌+◌, ◌≤◌, List, ◌++◌, length, min}
use Rattle.vme_trace.specs.Levels.{Levels}
use Rattle.vme_trace.specs.Trace.{levels_after}
use Rattle.vme_trace.specs.WellFormed.{capture_limit}
use Rattle.vme_trace.specs.declared.step.Step.{Step}
use Rattle.vme_summary.specs.declared.chunk_summary.ChunkSummary.{ChunkSummary}

-- `count` is the number of steps taken, at most `capture_limit` + 1; if these are at most `capture_limit`, all but the
-- waiting ones have been judged, as `IsPast` says
pub record KeepsUp (IsPast : Levels → List Step → Type 0) (count : ℕ) (opening : Levels)
    (taken waiting : List Step) : Type 0 where
  pub counted : count ≡ min (length taken) (capture_limit + 1)
  pub kept : length taken ≤ capture_limit → (done : List Step) × IsPast opening done × (done ++ waiting ≡ taken)

-- `count` is the number of steps of a chunk, at most `capture_limit` + 1; if these are at most `capture_limit`, the
-- chunk was judged by itself, as `IsMadeOf` says
pub record IsChunk (IsMadeOf : ChunkSummary → Levels → List Step → Type 0) (chunk_summary : ChunkSummary) (count : ℕ)
    (opening : Levels) (taken : List Step) (left : Levels) : Type 0 where
  pub counted : count ≡ min (length taken) (capture_limit + 1)
  pub made : length taken ≤ capture_limit → IsMadeOf chunk_summary opening taken
  pub left_is : left ≡ levels_after opening taken
