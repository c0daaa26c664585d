-- Where the levels of lines come from.
use Rattle.std.specs.Prelude.{ℕ, if◌then◌else◌, List, codes, bytes_eq, Option, Some, None}
use Rattle.vme_trace.specs.declared.level.Level.TheVariants.{Low, High, Unknown}
use Rattle.vcd_read.specs.Header.{bracketed, index_between}
use Rattle.vme_bind.specs.declared.source.LevelSource.{LevelSource}
use Rattle.vme_bind.specs.declared.source.LevelSource.TheVariants.{Constant, Variable}

-- a path, and the indices of the bits that are selected, if not all are
abbrev pub path_and_selection : List ℕ → Option (List ℕ × List ℕ) → List ℕ × Option (ℕ × ℕ)
path_and_selection word None = (word, None)
path_and_selection word (Some parts) = elim (index_between parts.1) [
  | None ↦ (word, None)
  | Some selection ↦
      (parts.0, Some selection)
]

-- the source of a path and a selection
abbrev pub variables_in : List ℕ × Option (ℕ × ℕ) → LevelSource
variables_in parts = Variable (record { path = parts.0; selection = parts.1 })

-- the source that the word after the equals sign says: a constant level, or else the bits of a variable
abbrev pub source_of : List ℕ → LevelSource
source_of word =
    if bytes_eq word (codes "0") then Constant Low
    else if bytes_eq word (codes "1") then Constant High
    else if bytes_eq word (codes "x") then Constant Unknown
    else variables_in (path_and_selection word (bracketed word))
