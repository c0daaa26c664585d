-- The steps of benches on a board, as the calls of vme_board make them on its table.
use Rattle.std.specs.Prelude.{◌≡◌, ◌≢◌, ℕ, zero, suc, ◌+◌, ◌*◌, ◌/◌, ◌<◌, List, [], ◌∷◌, ◌++◌, length}
use Rattle.std.specs.Prelude.{slice_index_or, slice_set, map, replicate, bit_or, Option, Some, None}
use mathlib.Core.Option.{none, some}
use lib.ListN.{get_elem?}
use Rattle.atomic_table.specs.Table.{State, Act, Valid, step, stepped, carried_after}
use Rattle.vme_trace.specs.declared.block.Block.{Block}
use Rattle.vme_core.specs.declared.view.View.{View}
use Rattle.vme_core.specs.Counting.{occurrences, update}
use Rattle.vme_core.specs.Machine.{BenchProgress, idle, has_claimed, has_put, has_taken, has_lifted}
use Rattle.vme_core.specs.Machine.{WordRow, claimed_row, filed_row, taken_row}
use Rattle.vme_core.specs.Machine.{BoardEvent, make, split, join, claim, put, file, look, draw, take, lift, give, load}
use Rattle.vme_core.specs.Views.{first_view, empty_view, kept_view, split_view, joint_view}
use Rattle.vme_board.specs.Words.{bit_of, mask_of}
use Rattle.vme_board.specs.Postconditions.{SeatState, TableStep, DrawPost, ClaimPost, FilePost, TakePost, GivePost}
use Rattle.vme_board.specs.Postconditions.{ClaimedLookPost, FiledLookPost, TakenLookPost, CountPost}

-- the state of the table of a board
abbrev pub TableState : Type 0
TableState = State (Option Block) View

-- the table of a board, and where each bench is in its call
pub record BoardState : Type 0 where
  pub table : TableState
  pub progress : ℕ → BenchProgress

-- a new board: no bit is set, each slot is in the table and empty, and there is one bench
abbrev pub opened : ℕ → ℕ → BoardState
opened width total = record {
  table = record { words = replicate width 0; homes = map some (replicate total None); views = first_view ∷ [] };
  progress = λ _. idle;
}

-- the slots that a bench has checked out, at a point of its call
abbrev pub held : BenchProgress → List (ℕ × Option Block)
held idle = []
held (has_claimed n b) = (n, None) ∷ []
held (has_put n b) = (n, Some b) ∷ []
held (has_taken n b) = (n, Some b) ∷ []
held (has_lifted n b) = (n, None) ∷ []

-- the bench i has the view v, and is at the point p of its call
abbrev pub IsAt : BoardState → ℕ → View → BenchProgress → Type 0
IsAt s i v p = (get_elem? s.table.views i ≡ some v) × (s.progress i ≡ p)

-- a step's postcondition: over the step, the seat's state before, the word's value before, and the seat's state after
abbrev pub Postcondition : Type 1
Postcondition = TableStep → SeatState → ℕ → SeatState → Type 0

-- The bench i makes one atomic step on the word j, which becomes `change` of its value. The bench gets any new view,
-- and its slots change by any valid act, if the postcondition `Post` holds.
pub record IsStep (Post : Postcondition) (change : ℕ → ℕ) (s : TableState) (i : ℕ) (seat : SeatState) (j mask : ℕ)
    (after : SeatState) (t : TableState) : Type 0 where
  pub act : Act (Option Block)
  pub valid : Valid s.homes seat.1 act
  pub slots : after.1 ≡ carried_after seat.1 act
  pub table : t ≡ stepped s j (change (slice_index_or s.words j 0)) i seat.1 after.0 act
  pub post : Post (step (length s.homes) j mask 0 none) seat (slice_index_or s.words j 0) after

-- the bench i sets the bit of n in the row k
abbrev pub Sets : Postcondition → BoardState → ℕ → View → BenchProgress → ℕ → ℕ → SeatState → TableState → Type 0
Sets Post s i v p k n after t =
    IsStep Post (λ x. bit_or x (mask_of n)) s.table i (v, held p) (4 * (n / 64) + k) (mask_of n) after t

-- the bench i loads the word j
abbrev pub Loads : Postcondition → BoardState → ℕ → View → BenchProgress → ℕ → SeatState → TableState → Type 0
Loads Post s i v p j after t = IsStep Post (λ x. x) s.table i (v, held p) j 0 after t

-- where a bench is in its call after it tried to claim n for b; the last argument is the bit that it found
abbrev pub after_claiming : ℕ → Block → ℕ → BenchProgress
after_claiming n b zero = has_claimed n b
after_claiming n b (suc found) = idle

-- where a bench is in its call after it tried to take n; the last argument is the slots that it has checked out
abbrev pub after_taking : ℕ → List (ℕ × Option Block) → BenchProgress
after_taking n [] = idle
after_taking n ((k, None) ∷ out) = idle
after_taking n ((k, Some b) ∷ out) = has_taken n b

-- the number of a row, and the postcondition of a load of its word
abbrev pub number_of : WordRow → ℕ
number_of claimed_row = 0
number_of filed_row = 1
number_of taken_row = 2

-- the postcondition of a look at a bit of this row
abbrev pub LookPost : WordRow → Postcondition
LookPost claimed_row = ClaimedLookPost
LookPost filed_row = FiledLookPost
LookPost taken_row = TakenLookPost

module _ (total draws : ℕ) where
  -- Benches of a board of `total` numbers and `draws` draws take the step of this event, which leads from s to t. A
  -- call begins while its bench is in no other call. A bench that claims, draws or takes has a share, i.e. it was not
  -- folded into another. All benches but the first are made by `split`.
  abbrev pub Takes : BoardState → BoardEvent → BoardState → Type 0
  Takes s make t = ⊥
  Takes s (split i) t =
      (v : View) × IsAt s i v idle
      × (t ≡ record s {
        table = record s.table { views = slice_set s.table.views i (kept_view v) ++ split_view v ∷ [] };
      })
  Takes s (join i j) t =
      (v w : View) × (j ≢ i) × IsAt s i v idle × IsAt s j w idle
      × (t ≡ record s {
        table = record s.table { views = slice_set (slice_set s.table.views i (joint_view v w)) j empty_view };
      })
  Takes s (claim i n b) t =
      (v : View) × (after : SeatState) × (n < total) × IsAt s i v idle × (v.share ≢ [])
      × Sets ClaimPost s i v idle 0 n after t.table
      × (t.progress ≡ update s.progress i (after_claiming n b (bit_of 0 s.table.words n)))
  Takes s (put i n b) t =
      (v : View) × IsAt s i v (has_claimed n b) × (t ≡ record s { progress = update s.progress i (has_put n b) })
  Takes s (file i n b) t =
      (v : View) × (after : SeatState) × IsAt s i v (has_put n b)
      × Sets FilePost s i v (has_put n b) 1 n after t.table
      × (t.progress ≡ update s.progress i idle)
  Takes s (look i row g) t =
      (v : View) × (after : SeatState) × IsAt s i v idle
      × Loads (LookPost row) s i v idle (4 * g + number_of row) after t.table
      × (t.progress ≡ s.progress)
  Takes s (draw i d) t =
      (v : View) × (after : SeatState) × (d < draws) × IsAt s i v idle × (v.share ≢ [])
      × Sets DrawPost s i v idle 3 d after t.table
      × (t.progress ≡ s.progress)
  Takes s (take i n) t =
      (v : View) × (after : SeatState) × (n < total) × IsAt s i v idle × (v.share ≢ []) × (0 < occurrences n v.filed)
      × Sets TakePost s i v idle 2 n after t.table
      × (t.progress ≡ update s.progress i (after_taking n after.1))
  Takes s (lift i n) t =
      (v : View) × (b : Block) × IsAt s i v (has_taken n b)
      × (t ≡ record s { progress = update s.progress i (has_lifted n b) })
  Takes s (give i n) t =
      (v : View) × (b : Block) × (after : SeatState) × IsAt s i v (has_lifted n b)
      × Loads GivePost s i v (has_lifted n b) 0 after t.table
      × (t.progress ≡ update s.progress i idle)
  Takes s (load i) t =
      (v : View) × (after : SeatState) × IsAt s i v idle
      × Loads CountPost s i v idle 0 after t.table
      × (t.progress ≡ s.progress)

  -- the steps of these events, one after the other, lead from s to t
  abbrev pub IsBoardRun : BoardState → List BoardEvent → BoardState → Type 0
  IsBoardRun s [] t = t ≡ s
  IsBoardRun s (e ∷ es) t = (u : BoardState) × Takes s e u × IsBoardRun u es t
