-- The current group of a recording that is settled step by step.
use Rattle.std.specs.Prelude.{◌≡◌, ℕ, Bool, true, false, List, length, get_or, All, Contains}
use Rattle.vme_trace.specs.Levels.{Levels}
use Rattle.vme_trace.specs.LineNumbers.{line_count}
use Rattle.vme_trace.specs.declared.step.Change.{Change}
use Rattle.vme_bind.specs.Recording.{IsLine, differs}

-- the time at which the group begins, the levels before it, and those after its last step
pub record GroupLevels : Type 0 where
  pub start : ℕ
  pub before : Levels
  pub now : Levels

-- a group begins, and has no step yet
abbrev pub begun : ℕ → Levels → GroupLevels
begun start v = record { start = start; before = v; now = v }

-- both are levels of one backplane, and each line on which they differ is listed
pub record ListsTouchedLines (before now : Levels) (touched : List ℕ) : Type 0 where
  pub slots : now.slots ≡ before.slots
  pub before_all : length before.levels ≡ line_count
  pub now_all : length now.levels ≡ line_count
  pub lines : All (IsLine before.slots) touched
  pub listed : (l : ℕ) → differs before now l ≡ true → Contains touched l

-- each line on which the levels differ is listed, and each line that is marked is listed
pub record KeepsTouchedLines (before now : Levels) (touched : List ℕ) (marks : List Bool) : Type 0 where
  pub lists : ListsTouchedLines before now touched
  pub marked : (l : ℕ) → get_or marks l false ≡ true → Contains touched l

-- each change is of a line that a backplane with `slots` slots has
abbrev pub ChangeLines : ℕ → List Change → Type 0
ChangeLines slots = All (λ (change : Change). IsLine slots change.line)
