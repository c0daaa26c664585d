-- The postcondition of each atomic step, for the bench that takes it. `seat` is the state of its seat before, `found`
-- the value of the word before, and `after` the state of its seat after.
use Rattle.std.specs.Prelude.{◌≡◌, ℕ, ◌+◌, ◌*◌, ◌/◌, ◌%◌, ◌<◌, ◌≤◌, List, [], ◌∷◌, length, Option, Some, None}
use Rattle.std.specs.Int.{bit_at}
use Rattle.atomic_table.specs.Table.{Me, Step, rest}
use Rattle.vme_trace.specs.declared.block.Block.{Block}
use Rattle.vme_core.specs.declared.view.View.{View}
use Rattle.vme_core.specs.Counting.{occurrences, numbers, set_bits}
use Rattle.vme_core.specs.Views.{with_claimed, with_filed, with_taken, with_found}
use Rattle.vme_core.specs.Views.{after_draw, after_claim, after_filing, after_take}
use Rattle.vme_board.specs.Views.{SameBlocks}
use Rattle.vme_board.specs.Words.{mask_of}

-- the state of a seat, i.e. of a bench's handle to the table: the view of the bench, and the slots that it has checked
-- out
abbrev pub SeatState : Type 0
SeatState = Me (Option Block) View

-- a step on the table of a board
abbrev pub TableStep : Type 0
TableStep = Step (Option Block)

-- the step is on the bit of n in the row k: its word and its mask are those of this bit
pub record IsAtBit (s : TableStep) (k n : ℕ) : Type 0 where
  pub word : s.word ≡ 4 * (n / 64) + k
  pub mask : s.first ≡ mask_of n

-- either the draw d was not won before, and the seat won it; or the seat finds it won
abbrev pub DrawPost : TableStep → SeatState → ℕ → SeatState → Type 0
DrawPost s seat found after = (d : ℕ) → IsAtBit s 3 d
    → (bit_at found (d % 64) ≡ 0
    → (occurrences d seat.0.draws ≡ 0) × (occurrences d seat.0.found ≡ 0) × (after ≡ (after_draw seat.0 d, seat.1)))
    × (bit_at found (d % 64) ≡ 1 → after ≡ (with_found seat.0 d, seat.1))

-- either the number n was not claimed before, and the seat claimed it and has its empty slot; or the seat sees it
-- claimed
abbrev pub ClaimPost : TableStep → SeatState → ℕ → SeatState → Type 0
ClaimPost s seat found after = (n : ℕ) → IsAtBit s 0 n
    → (bit_at found (n % 64) ≡ 0
    → (occurrences n (numbers seat.0.list) ≡ 0) × (after ≡ (after_claim seat.0 n, (n, None) ∷ seat.1)))
    × (bit_at found (n % 64) ≡ 1 → after ≡ (with_claimed seat.0 (n ∷ []), seat.1))

-- the seat files the block b that it put into the slot of n; before, it had filed fewer numbers than there are slots
abbrev pub FilePost : TableStep → SeatState → ℕ → SeatState → Type 0
FilePost s seat found after = (n : ℕ) → IsAtBit s 1 n → (b : Block) → seat.1 ≡ (n, Some b) ∷ []
    → (occurrences n (numbers seat.0.list) ≡ 0) × (after ≡ (after_filing seat.0 n b, []))
    × (length seat.0.list < s.slots) × SameBlocks after.0

-- either the number n was not taken before, and the seat took it and has its slot with its block; or the seat sees it
-- taken
abbrev pub TakePost : TableStep → SeatState → ℕ → SeatState → Type 0
TakePost s seat found after = (n : ℕ) → IsAtBit s 2 n
    → (bit_at found (n % 64) ≡ 0
    → (b : Block) × (b.number ≡ n) × (occurrences n (numbers seat.0.takes) ≡ 0)
    × (after ≡ (after_take seat.0 n b, (n, Some b) ∷ seat.1)) × (length seat.0.takes < s.slots) × SameBlocks after.0)
    × (bit_at found (n % 64) ≡ 1 → after ≡ (with_taken seat.0 (n ∷ []), seat.1))

-- the slot that the seat checked out last is returned to the table
abbrev pub GivePost : TableStep → SeatState → ℕ → SeatState → Type 0
GivePost s seat found after = after ≡ (seat.0, rest seat.1)

-- the numbers whose bit is 1 in the word `found`
abbrev pub shown_in : TableStep → ℕ → List ℕ
shown_in s found = set_bits (64 * (s.word / 4)) (bit_at found) 64

-- the seat sees claimed the numbers whose bit is 1 in a word of the row 0; among them are those of the word that it saw
-- claimed before
abbrev pub ClaimedLookPost : TableStep → SeatState → ℕ → SeatState → Type 0
ClaimedLookPost s seat found after =
    (after ≡ (with_claimed seat.0 (shown_in s found), seat.1))
    × ((n : ℕ) → s.word ≡ 4 * (n / 64) + 0 → 0 < occurrences n seat.0.claimed → bit_at found (n % 64) ≡ 1)

-- the seat sees filed the numbers whose bit is 1 in a word of the row 1; among them are those of the word that it saw
-- filed or taken before
abbrev pub FiledLookPost : TableStep → SeatState → ℕ → SeatState → Type 0
FiledLookPost s seat found after =
    (after ≡ (with_filed seat.0 (shown_in s found), seat.1))
    × ((n : ℕ) → s.word ≡ 4 * (n / 64) + 1 → 0 < occurrences n seat.0.filed → bit_at found (n % 64) ≡ 1)
    × ((n : ℕ) → s.word ≡ 4 * (n / 64) + 1 → 0 < occurrences n seat.0.taken → bit_at found (n % 64) ≡ 1)

-- the seat sees taken the numbers whose bit is 1 in a word of the row 2; among them are those of the word that it saw
-- taken before
abbrev pub TakenLookPost : TableStep → SeatState → ℕ → SeatState → Type 0
TakenLookPost s seat found after =
    (after ≡ (with_taken seat.0 (shown_in s found), seat.1))
    × ((n : ℕ) → s.word ≡ 4 * (n / 64) + 2 → 0 < occurrences n seat.0.taken → bit_at found (n % 64) ≡ 1)

-- the seat doesn't change; its draws, its list and its takes have no duplicates, and its list and its takes are at most
-- as long as there are slots
abbrev pub CountPost : TableStep → SeatState → ℕ → SeatState → Type 0
CountPost s seat found after =
    (after ≡ seat) × ((d : ℕ) → occurrences d seat.0.draws ≤ 1) × ((n : ℕ) → occurrences n (numbers seat.0.list) ≤ 1)
    × ((n : ℕ) → occurrences n (numbers seat.0.takes) ≤ 1)
    × (length seat.0.list ≤ s.slots) × (length seat.0.takes ≤ s.slots) × SameBlocks seat.0
