-- The data of a write by its eight hexadecimal digits: place 0 is that of D00 to D03, and place 7 that of D28 to D31.
use Rattle.std.specs.Prelude.{ℕ, Bool, ◌/◌, ◌%◌, ◌^◌}
use Rattle.vme_trace.specs.Lanes.{has_digit}
use Rattle.vme_trace.specs.declared.data.Lanes.{Lanes}

module _ (a : Lanes) (place : ℕ) where
  -- the digit is moved
  abbrev pub is_moved_in : Bool
  is_moved_in = has_digit a.moved place

  -- the digit in the value
  abbrev pub digit_in : ℕ
  digit_in = a.value / 16 ^ place % 16

  -- the bit that says whether the digit is unknown
  abbrev pub flag_in : ℕ
  flag_in = a.unknown / 2 ^ place % 2
