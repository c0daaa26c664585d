-- When the state of a board corresponds to one of the machine.
use Rattle.std.specs.Prelude.{◌≡◌, ℕ, ◌<◌, ◌≤◌, List, [], ◌∷◌, length, Option, Some, None}
use mathlib.Core.Option.{none, some}
use mathlib.Core.Option as maybe
use lib.ListN.{get_elem?}
use Rattle.vme_trace.specs.declared.block.Block.{Block}
use Rattle.vme_core.specs.declared.view.View.{View}
use Rattle.vme_core.specs.Counting.{occurrences, numbers}
use Rattle.vme_core.specs.Stages.{claimed_bit, filed_bit, taken_bit}
use Rattle.vme_core.specs.Machine.{BoardEvent, Core, Happens, IsRun, Slot, empty, away, filled}
use Rattle.vme_core.specs.Machine.{BenchProgress, idle, has_claimed, has_put, has_taken, has_lifted}
use Rattle.vme_board.specs.Words.{bit_of, IsWideFor}
use Rattle.vme_board_machine.specs.Steps.{BoardState, Takes}

-- the item of the table's slots that corresponds to a slot of the machine
abbrev pub home_of : Slot → maybe.Option (Option Block)
home_of empty = some None
home_of away = none
home_of (filled b) = some (Some b)

-- the numbers that a bench has claimed and not filed yet, at a point of its call
abbrev pub unfiled : BenchProgress → List ℕ
unfiled idle = []
unfiled (has_claimed n b) = n ∷ []
unfiled (has_put n b) = n ∷ []
unfiled (has_taken n b) = []
unfiled (has_lifted n b) = []

-- if a bench is between the take of a number and the return of its slot, the number is in its takes
abbrev pub HasTaken : View → BenchProgress → Type 0
HasTaken v idle = Unit {0}
HasTaken v (has_claimed n b) = Unit {0}
HasTaken v (has_put n b) = Unit {0}
HasTaken v (has_taken n b) = 0 < occurrences n (numbers v.takes)
HasTaken v (has_lifted n b) = 0 < occurrences n (numbers v.takes)

-- v may be the view of a bench at the point p of its call
abbrev pub IsViewAt : View → BenchProgress → Type 0
IsViewAt v p = (v.pending ≡ unfiled p) × HasTaken v p

-- The state s of a board of `total` numbers and `draws` draws corresponds to the machine's state m: each bit of a row,
-- each slot, and the view and the progress of each bench.
pub record ReadsAs (total draws : ℕ) (s : BoardState) (m : Core) : Type 0 where
  pub slots : length s.table.homes ≡ total
  pub numbers_fit : IsWideFor (length s.table.words) total
  pub draws_fit : IsWideFor (length s.table.words) draws
  pub drawn : (d : ℕ) → m.drawn d ≡ bit_of 3 s.table.words d
  pub claimed : (n : ℕ) → claimed_bit (m.stage n) ≡ bit_of 0 s.table.words n
  pub filed : (n : ℕ) → filed_bit (m.stage n) ≡ bit_of 1 s.table.words n
  pub taken : (n : ℕ) → taken_bit (m.stage n) ≡ bit_of 2 s.table.words n
  pub homes : (n : ℕ) → n < total → get_elem? s.table.homes n ≡ some (home_of (m.home n))
  pub views : m.views ≡ s.table.views
  pub progress : (i : ℕ) → m.progress i ≡ s.progress i
  pub calls : (i : ℕ) (v : View) → get_elem? s.table.views i ≡ some v → IsViewAt v (s.progress i)
  pub unmade : (i : ℕ) → length s.table.views ≤ i → s.progress i ≡ idle

module _ (total draws : ℕ) where
  -- each step of the benches from s is the event of the machine from m, and leads to a state that corresponds to the
  -- one after the event
  abbrev pub StepsAs : BoardState → Core → Type 0
  StepsAs s m =
      (t : BoardState) (e : BoardEvent) → Takes total draws s e t
      → (n : Core) × Happens total draws m e n × ReadsAs total draws t n

  -- t corresponds to the state after a run of the machine from m
  abbrev pub RunsAs : Core → List BoardEvent → BoardState → Type 0
  RunsAs m events t = (n : Core) × IsRun total draws m events n × ReadsAs total draws t n
