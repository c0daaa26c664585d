-- A row read from its line, from left to right. The text of each piece is at the start of what is left of the line.
use Rattle.std.specs.Prelude.{ℕ, zero, suc, Bool, true, ◌^◌, ◌==◌, ◌&&◌, ◌||◌, List, [], ◌∷◌, drop, length}
use Rattle.std.specs.Prelude.{take}
use Rattle.std.specs.Prelude.{Option, None, Some, bytes_eq, codes, decimal, nat_lt, nat_le, if◌then◌else◌}
use Rattle.std.specs.Char.{is_ascii_digit}
use Rattle.std.specs.Option.{is_some}
use Rattle.std.specs.Str.Parse.{digits_value}
use Rattle.vme_trace.specs.Names.{line_named, rule_named}
use Rattle.vme_trace.specs.declared.data.Lanes.{Lanes}
use Rattle.vme_trace.specs.declared.data.MovedBytes.TheVariants.{Nothing}
use Rattle.vme_trace.specs.declared.rule.Rule.{Rule}
use Rattle.vme_trace.specs.declared.class.Class.{Class}
use Rattle.vme_trace.specs.declared.class.Class.TheVariants as class
use Rattle.vme_listing.specs.RowText.{address_digits, hexadecimal}
use Rattle.vme_listing.specs.RowText.{lanes_text}
use Rattle.vme_listing.specs.Words.{flags_of, moved_of, number_of}
use Rattle.vme_listing.specs.declared.row.AnswerLine.{AnswerLine}
use Rattle.vme_listing.specs.declared.row.AnswerLine.TheVariants.{Dtack, Berr}
use Rattle.vme_listing.specs.declared.row.Direction.{Direction}
use Rattle.vme_listing.specs.declared.row.Direction.TheVariants.{Read, Write}
use Rattle.vme_listing.specs.declared.row.ListedVerdict.{ListedVerdict}
use Rattle.vme_listing.specs.declared.row.ListedVerdict.TheVariants.{Conforming, NeverIdle, Broken, Unreadable}
use Rattle.vme_listing.specs.declared.row.Row.{Row}
use Rattle.vme_listing.specs.declared.row.Row.TheVariants.{Start, Reset, OpenTenure, Tenure, AddressedCycle}
use Rattle.vme_listing.specs.declared.row.Row.TheVariants.{FreeCycle, InterruptCycle, Transfer, PendingTransfer}
use Rattle.vme_listing.specs.declared.row.Row.TheVariants.{Verdict}

-- the bytes of a line after the pieces that were read, or None if one of the pieces wasn't there
abbrev pub Rest : Type 0
Rest = Option (List ℕ)

-- the bytes of the line after the word, or None if the line doesn't begin with the word
abbrev pub after_word : List ℕ → List ℕ → Rest
after_word [] line = Some line
after_word (byte ∷ word) [] = None
after_word (byte ∷ word) (first ∷ line) = if byte == first then after_word word line else None

-- what is left after a word
abbrev pub past : List ℕ → Rest → Rest
past word None = None
past word (Some line) = after_word word line

-- what is left begins with the word
abbrev pub starts_with : List ℕ → Rest → Bool
starts_with word left = is_some (past word left)

-- what is left of a line after a piece: `read` gives the piece at the start of a line, and `text` its text
module _ {A : Type 0} (read : List ℕ → Option A) (text : A → List ℕ) where
  -- what is left of `line` after the text of the piece that was read from it
  abbrev pub past_read : Option A → List ℕ → Rest
  past_read None line = None
  past_read (Some x) line = after_word (text x) line

  -- what is left after the piece at its start
  abbrev pub past_piece : Rest → Rest
  past_piece None = None
  past_piece (Some line) = past_read (read line) line

-- the piece that `read` gives, or `other` where there is none
module _ {A : Type 0} (read : List ℕ → Option A) (other : A) where
  -- the piece, or `other` if there is none
  abbrev pub or_other : Option A → A
  or_other None = other
  or_other (Some x) = x

  -- the piece at the start of what is left
  abbrev pub piece : Rest → A
  piece None = other
  piece (Some line) = or_other (read line)

-- the decimal digits at the start of a line, at most as many as the first argument says
abbrev pub digits_at : ℕ → List ℕ → List ℕ
digits_at zero line = []
digits_at (suc most) [] = []
digits_at (suc most) (byte ∷ line) = if is_ascii_digit byte then byte ∷ digits_at most line else []

-- the number below 2^32 whose decimal text the digits at the start of a line are; at most ten digits are looked at
unfoldable pub number_in : List ℕ → Option ℕ
number_in line =
    if nat_lt (digits_value 10 (digits_at 10 line)) (2 ^ 32)
    && bytes_eq (decimal (digits_value 10 (digits_at 10 line))) (digits_at 10 line)
    then Some (digits_value 10 (digits_at 10 line)) else None

-- 0 to 9 and A to F
abbrev pub is_hexadecimal : ℕ → Bool
is_hexadecimal byte = (nat_le 48 byte && nat_le byte 57) || (nat_le 65 byte && nat_le byte 70)

-- all bytes are such digits
abbrev pub are_hexadecimal : List ℕ → Bool
are_hexadecimal [] = true
are_hexadecimal (byte ∷ word) = is_hexadecimal byte && are_hexadecimal word

-- the number whose text of `digits` digits in base 16 is at the start of a line
unfoldable pub hexadecimal_in : ℕ → List ℕ → Option ℕ
hexadecimal_in digits line =
    if bytes_eq (hexadecimal digits (number_of 16 (take digits line))) (take digits line)
    then Some (number_of 16 (take digits line)) else None

-- the data where none are read
abbrev pub no_lanes : Lanes
no_lanes = record { moved = Nothing; value = 0; unknown = 0 }

-- the data that these eight characters say, whether or not they are written as they have to be
abbrev pub lanes_of : List ℕ → Lanes
lanes_of word = record { moved = moved_of word; value = number_of 16 word; unknown = flags_of word }

-- the data whose text is at the start of a line
unfoldable pub lanes_in : List ℕ → Option Lanes
lanes_in line =
    if bytes_eq (lanes_text (lanes_of (take 8 line))) (take 8 line) then Some (lanes_of (take 8 line)) else None

-- what is left after a word that may be there or not
abbrev pub skipped : List ℕ → Rest → Rest
skipped word left = if starts_with word left then past word left else left

module _ (left : Rest) where
  -- the number that is read
  abbrev pub number_at : ℕ
  number_at = piece number_in 0 left

  -- what is left after it
  abbrev pub past_number : Rest
  past_number = past_piece number_in decimal left

  -- the number that is read, where it is below 256, else 0
  abbrev pub small_at : ℕ
  small_at = if nat_lt number_at 256 then number_at else 0

  -- what is left after it
  abbrev pub past_small : Rest
  past_small = if nat_lt number_at 256 then past_number else None

  -- the instant of an end or a close that is read: none where there is a hyphen
  abbrev pub end_instant_at : Option ℕ
  end_instant_at = if starts_with (codes "-") left then None else Some number_at

  -- what is left after it
  abbrev pub past_end_instant : Rest
  past_end_instant = if starts_with (codes "-") left then past (codes "-") left else past_number

  -- the number of so many hexadecimal digits that is read
  abbrev pub hexadecimal_at : ℕ → ℕ
  hexadecimal_at digits = piece (hexadecimal_in digits) 0 left

  -- what is left after it
  abbrev pub past_hexadecimal : ℕ → Rest
  past_hexadecimal digits = past_piece (hexadecimal_in digits) (hexadecimal digits) left

  -- the modifier code that is read: a number of two hexadecimal digits
  abbrev pub modifier_at : ℕ
  modifier_at = if nat_lt (hexadecimal_at 2) 256 then hexadecimal_at 2 else 0

  -- what is left after it
  abbrev pub past_modifier : Rest
  past_modifier = if nat_lt (hexadecimal_at 2) 256 then past_hexadecimal 2 else None

  -- the direction that is read
  abbrev pub direction_at : Direction
  direction_at = if starts_with (codes " read") left then Read else Write

  -- what is left after it
  abbrev pub past_direction : Rest
  past_direction = if starts_with (codes " read") left then past (codes " read") left else past (codes " write") left

  -- the answer line that is read
  abbrev pub answer_at : AnswerLine
  answer_at = if starts_with (codes " DTACK ") left then Dtack else Berr

  -- what is left after it
  abbrev pub past_answer : Rest
  past_answer = if starts_with (codes " DTACK ") left then past (codes " DTACK ") left else past (codes " BERR ") left

  -- the class that is read, of a cycle with an address
  abbrev pub class_at : Class
  class_at = if starts_with (codes " S ") left then class.S else class.K

  -- what is left after it
  abbrev pub past_class : Rest
  past_class = if starts_with (codes " S ") left then past (codes " S ") left else past (codes " K ") left

  -- the data that are read
  abbrev pub lanes_at : Lanes
  lanes_at = piece lanes_in no_lanes left

  -- what is left after them
  abbrev pub past_lanes : Rest
  past_lanes = past_piece lanes_in lanes_text left

module _ (left : Rest) where
  -- the data of a transfer: None where the word " data " isn't there
  abbrev pub data_at : Option Lanes
  data_at = if starts_with (codes " data ") left then Some (lanes_at (past (codes " data ") left)) else None

  -- what is left after them
  abbrev pub past_data : Rest
  past_data = if starts_with (codes " data ") left then past_lanes (past (codes " data ") left) else left

-- the row after its first word, and what is left after the row. `*_left` and `*_end` are what is left before a piece,
-- but `digits_left` is how many digits the address has
module _ (left : Rest) where
  -- of a tenure: before its level
  abbrev pub level_left : Rest
  level_left = past (codes " level ") (past_number left)

  -- before its slot
  abbrev pub slot_left : Rest
  slot_left = past (codes " slot ") (past_small level_left)

  -- before its end
  abbrev pub end_left : Rest
  end_left = past (codes " end ") (past_small slot_left)

  -- before the end of an open tenure
  abbrev pub open_left : Rest
  open_left = past (codes " open end ") (past_number left)

  -- the tenure that is read
  unfoldable pub tenure_at : Row
  tenure_at =
      if starts_with (codes " open end ") (past_number left) then OpenTenure (number_at left) (end_instant_at open_left)
      else Tenure (number_at left) (small_at level_left) (small_at slot_left) (end_instant_at end_left)

  -- what is left after it
  unfoldable pub past_tenure : Rest
  past_tenure =
      if starts_with (codes " open end ") (past_number left) then past_end_instant open_left
      else past_end_instant end_left

  -- of an interrupt acknowledge cycle: before its level
  abbrev pub interrupt_left : Rest
  interrupt_left = past (codes " I ") (past_number left)

  -- before its end
  abbrev pub interrupt_end : Rest
  interrupt_end = past (codes " end ") (past_small interrupt_left)

  -- of a cycle of class F: before its modifier code
  abbrev pub free_left : Rest
  free_left = past (codes " F ") (past_number left)

  -- before its end
  abbrev pub free_end : Rest
  free_end = past (codes " end ") (past_modifier free_left)

  -- of a cycle with an address: before its modifier code, after its class
  abbrev pub class_left : Rest
  class_left = past_class (past_number left)

  -- before its address
  abbrev pub address_left : Rest
  address_left = past (codes " ") (past_modifier class_left)

  -- how many digits its address has
  abbrev pub digits_left : ℕ
  digits_left = address_digits (modifier_at class_left)

  -- before its end
  abbrev pub cycle_end : Rest
  cycle_end = past (codes " end ") (past_hexadecimal address_left digits_left)

  -- the cycle that is read
  unfoldable pub cycle_at : Row
  cycle_at =
      if starts_with (codes " I ") (past_number left)
      then InterruptCycle (number_at left) (small_at interrupt_left) (end_instant_at interrupt_end)
      else if starts_with (codes " F ") (past_number left)
      then FreeCycle (number_at left) (modifier_at free_left) (end_instant_at free_end)
      else AddressedCycle (number_at left) (class_at (past_number left)) (modifier_at class_left)
      (hexadecimal_at address_left digits_left) (end_instant_at cycle_end)

  -- what is left after it
  unfoldable pub past_cycle : Rest
  past_cycle =
      if starts_with (codes " I ") (past_number left) then past_end_instant interrupt_end
      else if starts_with (codes " F ") (past_number left) then past_end_instant free_end
      else past_end_instant cycle_end

  -- of an answered transfer: before the instant of its cycle
  abbrev pub of_left : Rest
  of_left = past (codes " of ") (past_number left)

  -- before its answer line
  abbrev pub answer_left : Rest
  answer_left = past_direction (past_number of_left)

  -- before its close
  abbrev pub close_left : Rest
  close_left = past (codes " close ") (past_number (past_answer answer_left))

  -- the transfer that is read
  unfoldable pub transfer_at : Row
  transfer_at =
      if starts_with (codes " of ") (past_number left)
      then Transfer (direction_at (past_number of_left)) (answer_at answer_left) (number_at left) (number_at of_left)
      (number_at (past_answer answer_left)) (end_instant_at close_left) (data_at (past_end_instant close_left))
      else PendingTransfer (number_at left) (direction_at (past_number left))

  -- what is left after it
  unfoldable pub past_transfer : Rest
  past_transfer =
      if starts_with (codes " of ") (past_number left) then past_data (past_end_instant close_left)
      else past (codes " pending") (past_direction (past_number left))

-- the verdict of a break by its kind, its rule, its instant and its line, if a line was read
abbrev pub named_break : (Rule → ℕ → ℕ → ListedVerdict) → Rule → ℕ → Option ℕ → Option ListedVerdict
named_break kind rule instant None = None
named_break kind rule instant (Some line) = Some (kind rule instant line)

-- the line whose name is all that is left
abbrev pub line_in : Rest → Option ℕ
line_in None = None
line_in (Some line) = line_named line

-- the verdict of a break by its kind and its rule, if there is one, and by what is left after the rule
abbrev pub break_by : (Rule → ℕ → ℕ → ListedVerdict) → Option Rule → Rest → Option ListedVerdict
break_by kind None left = None
break_by kind (Some rule) left =
    named_break kind rule (number_at (past (codes " ") left)) (line_in (past (codes " ") (past_number (past
    (codes " ") left))))

-- the break that is read after the word of its kind
abbrev pub break_in : (Rule → ℕ → ℕ → ListedVerdict) → Rest → Option ListedVerdict
break_in kind None = None
break_in kind (Some line) =
    if nat_le 2 (length line) then break_by kind (rule_named (take 2 line)) (Some (drop 2 line)) else None

-- the verdict that a text says
unfoldable pub outcome_in : List ℕ → Option ListedVerdict
outcome_in line =
    if bytes_eq line (codes "conforming") then Some Conforming
    else if bytes_eq line (codes "never-idle") then Some NeverIdle
    else if starts_with (codes "broken ") (Some line) then break_in Broken (after_word (codes "broken ") line)
    else break_in Unreadable (after_word (codes "unreadable ") line)

-- the row, if the whole line was read
abbrev pub whole : Row → Rest → Option Row
whole row None = None
whole row (Some []) = Some row
whole row (Some (byte ∷ line)) = None

-- the row of a verdict, if there is one
abbrev pub verdict_by : Option ListedVerdict → Option Row
verdict_by None = None
verdict_by (Some outcome) = Some (Verdict outcome)

-- the row of the verdict that all that is left says
abbrev pub verdict_in : Rest → Option Row
verdict_in None = None
verdict_in (Some line) = verdict_by (outcome_in line)

-- the row whose text a line is
unfoldable pub row_in : List ℕ → Option Row
row_in line =
    if starts_with (codes "transfer ") (Some line)
    then whole (transfer_at (after_word (codes "transfer ") line)) (past_transfer (after_word (codes "transfer ") line))
    else if starts_with (codes "cycle ") (Some line)
    then whole (cycle_at (after_word (codes "cycle ") line)) (past_cycle (after_word (codes "cycle ") line))
    else if starts_with (codes "tenure ") (Some line)
    then whole (tenure_at (after_word (codes "tenure ") line)) (past_tenure (after_word (codes "tenure ") line))
    else if starts_with (codes "start ") (Some line)
    then whole (Start (number_at (after_word (codes "start ") line))) (past_number (after_word (codes "start ") line))
    else if starts_with (codes "reset ") (Some line)
    then whole (Reset (number_at (after_word (codes "reset ") line))) (past_number (after_word (codes "reset ") line))
    else verdict_in (after_word (codes "verdict ") line)
