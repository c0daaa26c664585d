-- The data that a transfer moves: which bytes, and the levels of their lines as hexadecimal digits of four lines each.
use Rattle.std.specs.Prelude.{ℕ, Bool, false, not, ◌+◌, ◌*◌, ◌&&◌, nat_lt, nat_le, if◌then◌else◌}
use Rattle.vme_trace.specs.LineNumbers.{D}
use Rattle.vme_trace.specs.Levels.{Levels, level_at, is_high, is_known}
use Rattle.vme_trace.specs.Data.{is_selected}
use Rattle.vme_trace.specs.declared.data.MovedBytes.{MovedBytes}
use Rattle.vme_trace.specs.declared.data.MovedBytes.TheVariants.{Nothing, OddByte, EvenByte, Word, LongWord}
use Rattle.vme_trace.specs.declared.data.Lanes.{Lanes}

-- the digit at place k is among the bytes; place 0 is that of D00 to D03, and 7 that of D28 to D31
abbrev pub has_digit : MovedBytes → ℕ → Bool
has_digit Nothing k = false
has_digit OddByte k = nat_lt k 2
has_digit EvenByte k = nat_le 2 k && nat_lt k 4
has_digit Word k = nat_lt k 4
has_digit LongWord k = nat_lt k 8

module _ (v : Levels) where
  -- the bytes whose lines are selected
  unfoldable pub moved_at : MovedBytes
  moved_at =
      if is_selected v (D 16) then LongWord
      else if is_selected v (D 0) && is_selected v (D 8) then Word
      else if is_selected v (D 0) then OddByte
      else if is_selected v (D 8) then EvenByte
      else Nothing

  -- the lines of digit k are selected
  abbrev pub is_digit_moved : ℕ → Bool
  is_digit_moved k = is_selected v (D (4 * k))

  -- each line of digit k is known
  abbrev pub is_digit_known : ℕ → Bool
  is_digit_known k =
      is_known (level_at v (D (4 * k))) && is_known (level_at v (D (4 * k + 1)))
      && is_known (level_at v (D (4 * k + 2))) && is_known (level_at v (D (4 * k + 3)))

  -- the weight w where data line n is high, else 0
  abbrev pub weight_at : ℕ → ℕ → ℕ
  weight_at n w = if is_high (level_at v (D n)) then w else 0

  -- digit k, where it is moved and known, else 0
  unfoldable pub digit_at : ℕ → ℕ
  digit_at k =
      if is_digit_moved k && is_digit_known k
      then weight_at (4 * k) 1 + weight_at (4 * k + 1) 2 + weight_at (4 * k + 2) 4 + weight_at (4 * k + 3) 8
      else 0

  -- 1 where digit k is moved and not known, else 0
  unfoldable pub flag_at : ℕ → ℕ
  flag_at k = if is_digit_moved k && not (is_digit_known k) then 1 else 0

  -- the data of a transfer that is answered at these levels
  unfoldable pub lanes_at : Lanes
  lanes_at =
      record {
        moved = moved_at;
        value =
            digit_at 0 + 16 * digit_at 1 + 256 * digit_at 2 + 4096 * digit_at 3 + 65536 * digit_at 4
            + 1048576 * digit_at 5
            + 16777216 * digit_at 6 + 268435456 * digit_at 7;
        unknown = flag_at 0 + 2 * flag_at 1 + 4 * flag_at 2 + 8 * flag_at 3 + 16 * flag_at 4 + 32 * flag_at 5
            + 64 * flag_at 6 + 128 * flag_at 7;
      }
