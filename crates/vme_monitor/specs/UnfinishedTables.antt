-- What an unfinished table gives of the steps so far.
use Rattle.std.specs.Prelude.{◌≡◌, ◌+◌, ℕ, List, [], ◌∷◌, ◌++◌, length, map, Option}
use Rattle.vme_trace.specs.Levels.{Levels}
use Rattle.vme_trace.specs.Trace.{levels_after}
use Rattle.vme_trace.specs.declared.step.Change.{Change}
use Rattle.vme_trace.specs.declared.step.Step.{Step}
use Rattle.vme_monitor.specs.Meeting.{KeepApart, marks_of}
use Rattle.vme_monitor.specs.Run.{machine_step, run_of}
use Rattle.vme_monitor.specs.StepRuns.{GiveRuns}
use Rattle.vme_monitor.specs.Walk.{link_values, outcome_of}
use Rattle.vme_monitor.specs.declared.mark.Next.{Next}
use Rattle.vme_monitor.specs.declared.table.Unfinished.{Unfinished}

module _ {M P S : Type 0} where
  -- how many marks all lists of an unfinished table have together
  abbrev pub unfinished_marks : Unfinished M P S → ℕ
  unfinished_marks t = marks_of (link_values t.layers.items) (map outcome_of t.rows.items)

module _ {M P S : Type 0} (observation : Levels → Levels → List Change → Option S)
    (next : P → Levels → Levels → S → Next P) (place : P → ℕ) where
  -- t gives the runs over the steps x after the opening o, and no row of it is more sensitive than `most`
  abbrev pub HasRuns : (P → ℕ) → Unfinished M P S → Levels → List Step → Type 0
  HasRuns sensitivity t o x = GiveRuns (run_of (machine_step observation next)) place sensitivity t.layers.items
      t.rows.items t.most o x

  -- the rows of t are in different memories that x may leave, and t has at most as many marks as `shown_apart` counts
  abbrev pub HasRowsApart : ℕ → (ℕ → P) → Unfinished M P S → Levels → List Step → Type 0
  HasRowsApart count nth t o x = KeepApart (run_of (machine_step observation next)) count place nth
      (link_values t.layers.items) (map outcome_of t.rows.items) o x

  -- if `old` gives the runs over the steps before s, `new` gives those over these steps and s
  abbrev pub HasRunsNext : (P → ℕ) → Unfinished M P S → Unfinished M P S → Levels → Step → ℕ → Type 0
  HasRunsNext sensitivity old new before s instant =
      (o : Levels) (x : List Step) → before ≡ levels_after o x → instant ≡ length x + 1
      → HasRuns sensitivity old o x → HasRuns sensitivity new o (x ++ s ∷ [])

  -- if `old` gives the runs over the steps before s, and its rows are apart, the rows of `new` are apart after s
  abbrev pub HasRowsApartNext : (P → ℕ) → ℕ → (ℕ → P) → Unfinished M P S → Unfinished M P S → Levels → Step → ℕ
      → Type 0
  HasRowsApartNext sensitivity count nth old new before s instant =
      (o : Levels) (x : List Step) → before ≡ levels_after o x → instant ≡ length x + 1
      → HasRuns sensitivity old o x → HasRowsApart count nth old o x → HasRowsApart count nth new o (x ++ s ∷ [])
