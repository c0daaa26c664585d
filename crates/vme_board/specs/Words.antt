-- The rule of the board's table: the invariant of the machine, for the table's words and slots and the benches' views.
--
-- Word 4 g + k has a bit for each of the 64 numbers from 64 g on: the claimed ones in row k = 0, the filed ones in
-- row 1, the taken ones in row 2; and in row 3 for each of the 64 draws from 64 g on. The slot n is that of the
-- number n.
use Rattle.std.specs.Prelude.{◌≡◌, ◌==◌, ℕ, ◌+◌, ◌*◌, ◌/◌, ◌%◌, ◌^◌, ◌<◌, ◌≤◌, cond}
use Rattle.std.specs.Prelude.{List, length, slice_index_or, slice_get, Option, Some, None}
use mathlib.Core.Option.{some}
use mathlib.Core.Option as maybe
use lib.ListN.{get_elem?}
use Rattle.std.specs.Int.{bit_at}
use Rattle.atomic_table.specs.Table.{State}
use Rattle.vme_trace.specs.declared.block.Block.{Block}
use Rattle.vme_core.specs.declared.view.View.{View}
use Rattle.vme_core.specs.BoardInvariant.{BoardInvariant}

-- the bit of n in the row k
abbrev pub bit_of : ℕ → List ℕ → ℕ → ℕ
bit_of k words n = bit_at (slice_index_or words (4 * (n / 64) + k) 0) (n % 64)

-- `width` words, in whole groups of four rows, have a bit in each row for each number below `limit`
abbrev pub IsWideFor : ℕ → ℕ → Type 0
IsWideFor width limit = (limit ≤ 16 * width) × (width ≡ 4 * (width / 4))

-- the mask of the bit of n in its word
abbrev pub mask_of : ℕ → ℕ
mask_of n = 1 * 2 ^ (n % 64) % 2 ^ 64

-- for each slot its value, or `none` if a bench has it checked out
abbrev pub Homes : Type 0
Homes = List (maybe.Option (Option Block))

-- where there is a slot n, it has no block, and no bench has it checked out
abbrev pub IsEmpty : Homes → ℕ → Type 0
IsEmpty homes n = n < length homes → get_elem? homes n ≡ some (some None)

-- slot n has the block b, and no bench has it checked out
abbrev pub IsFilled : Homes → ℕ → Block → Type 0
IsFilled homes n b = get_elem? homes n ≡ some (some (Some b))

-- the board's invariant holds of these words, slots and views
abbrev pub Reads : (ℕ → Option Block) → List ℕ → Homes → List View → Type 0
Reads content words homes views =
    BoardInvariant (length homes) (bit_of 3 words) (bit_of 0 words) (bit_of 1 words) (bit_of 2 words) content
    (IsEmpty homes) (IsFilled homes) views

-- the content of a number is a block of that number
abbrev pub IsNumbered : (ℕ → Option Block) → Type 0
IsNumbered content = (n : ℕ) (b : Block) → content n ≡ Some b → b.number ≡ n

-- the table has `width` words, and the invariant holds with some contents, each a block of its number
abbrev pub Holds : ℕ → State (Option Block) View → Type 0
Holds width s =
    (length s.words ≡ width)
    × ((content : ℕ → Option Block) × Reads content s.words s.homes s.views × IsNumbered content)

-- the value of the slot n, if `filed` is 1 and `taken` isn't
abbrev pub kept : ℕ → ℕ → List (Option Block) → ℕ → Option Block
kept filed taken slots n = cond (filed == 1) (cond (taken == 1) None (slice_index_or slots n None)) None

-- the place of each number below `total` has its slot's value if the number is filed and not taken, else none
abbrev pub AreKept : List ℕ → List (Option Block) → ℕ → List (Option Block) → Type 0
AreKept words slots total places =
    (n : ℕ) → n < total → slice_get places n ≡ Some (kept (bit_of 1 words n) (bit_of 2 words n) slots n)
