-- The text of a listing: ASCII, a header, and then one line for each row. Every line ends with one line feed, words
-- are separated by one space, and numbers are decimal without leading zeros.
use Rattle.std.specs.Prelude.{ℕ, zero, suc, Bool, true, not, ◌+◌, ◌/◌, ◌%◌, ◌==◌, List, [], ◌∷◌, ◌++◌, flat_map}
use Rattle.std.specs.Prelude.{Option, None, Some, codes, decimal, if◌then◌else◌}
use Rattle.std.specs.Fmt.{digit_glyph}
use Rattle.vme_trace.specs.Cycle.{highest_address}
use Rattle.vme_trace.specs.Rules.{rule_name}
use Rattle.vme_trace.specs.Names.{line_name}
use Rattle.vme_trace.specs.declared.data.Lanes.{Lanes}
use Rattle.vme_trace.specs.declared.rule.Rule.{Rule}
use Rattle.vme_trace.specs.declared.class.Class.{Class}
use Rattle.vme_trace.specs.declared.class.Class.TheVariants as class
use Rattle.vme_listing.specs.LaneDigits.{is_moved_in, digit_in, flag_in}
use Rattle.vme_listing.specs.Listed.{Listed}
use Rattle.vme_listing.specs.declared.row.AnswerLine.{AnswerLine}
use Rattle.vme_listing.specs.declared.row.AnswerLine.TheVariants.{Dtack, Berr}
use Rattle.vme_listing.specs.declared.row.Direction.{Direction}
use Rattle.vme_listing.specs.declared.row.Direction.TheVariants.{Read, Write}
use Rattle.vme_listing.specs.declared.row.ListedVerdict.{ListedVerdict}
use Rattle.vme_listing.specs.declared.row.ListedVerdict.TheVariants.{Conforming, NeverIdle, Broken, Unreadable}
use Rattle.vme_listing.specs.declared.row.Version.{Version}
use Rattle.vme_listing.specs.declared.row.Version.TheVariants.{One, Two, Three}
use Rattle.vme_listing.specs.declared.row.Row.{Row}
use Rattle.vme_listing.specs.declared.row.Row.TheVariants.{Start, Reset, OpenTenure, Tenure, AddressedCycle}
use Rattle.vme_listing.specs.declared.row.Row.TheVariants.{FreeCycle, InterruptCycle, Transfer, PendingTransfer}
use Rattle.vme_listing.specs.declared.row.Row.TheVariants.{Verdict}

-- the instant of an end or a close, or a hyphen where it isn't at a listed instant
abbrev pub end_instant_text : Option ℕ → List ℕ
end_instant_text None = codes "-"
end_instant_text (Some n) = decimal n

-- the last digits of n in base 16, as many as the first argument says, the letters in upper case
unfoldable pub hexadecimal : ℕ → ℕ → List ℕ
hexadecimal zero n = []
hexadecimal (suc k) n = hexadecimal k (n / 16) ++ digit_glyph true (n % 16) ∷ []

-- how many digits an address has, by the modifier code: 8 in the extended space, 6 in the standard, 4 in the short
abbrev pub address_digits : ℕ → ℕ
address_digits modifier = (highest_address modifier + 1) / 4

-- the letter of a class of cycles
abbrev pub class_text : Class → List ℕ
class_text class.S = codes "S"
class_text class.K = codes "K"
class_text class.I = codes "I"
class_text class.F = codes "F"

-- the word for a direction
abbrev pub direction_text : Direction → List ℕ
direction_text Read = codes "read"
direction_text Write = codes "write"

-- the name of an answer line
abbrev pub answer_text : AnswerLine → List ℕ
answer_text Dtack = codes "DTACK"
answer_text Berr = codes "BERR"

-- a digit of the data: a hyphen where it isn't moved, X where it's unknown, else the digit, the letters in upper case
abbrev pub digit_text : Bool → ℕ → ℕ → ℕ
digit_text moved digit flag = if not moved then 45 else if flag == 1 then 88 else digit_glyph true digit

-- the digit of the data with the place `place`, from 0 for the lowest
abbrev pub digit_text_in : Lanes → ℕ → ℕ
digit_text_in a place = digit_text (is_moved_in a place) (digit_in a place) (flag_in a place)

-- the eight digits of the data, the highest first
unfoldable pub lanes_text : Lanes → List ℕ
lanes_text a =
    digit_text_in a 7 ∷ digit_text_in a 6 ∷ digit_text_in a 5 ∷ digit_text_in a 4 ∷ digit_text_in a 3
    ∷ digit_text_in a 2 ∷ digit_text_in a 1 ∷ digit_text_in a 0 ∷ []

-- the data of a transfer, if it has some
abbrev pub data_text : Option Lanes → List ℕ
data_text None = []
data_text (Some a) = codes " data " ++ lanes_text a

-- a break: its rule, its instant and its line
abbrev pub break_text : Rule → ℕ → ℕ → List ℕ
break_text rule instant line = rule_name rule ++ codes " " ++ decimal instant ++ codes " " ++ line_name line

-- the verdict
abbrev pub verdict_text : ListedVerdict → List ℕ
verdict_text Conforming = codes "verdict conforming"
verdict_text NeverIdle = codes "verdict never-idle"
verdict_text (Broken rule instant line) = codes "verdict broken " ++ break_text rule instant line
verdict_text (Unreadable rule instant line) = codes "verdict unreadable " ++ break_text rule instant line

-- the line of a row, without its line feed
unfoldable pub row_text : Row → List ℕ
row_text (Start instant) = codes "start " ++ decimal instant
row_text (Reset instant) = codes "reset " ++ decimal instant
row_text (OpenTenure start end) = codes "tenure " ++ decimal start ++ codes " open end " ++ end_instant_text end
row_text (Tenure start level slot end) =
    codes "tenure " ++ decimal start ++ codes " level " ++ decimal level ++ codes " slot " ++ decimal slot
    ++ codes " end " ++ end_instant_text end
row_text (AddressedCycle start class modifier address end) =
    codes "cycle " ++ decimal start ++ codes " " ++ class_text class ++ codes " " ++ hexadecimal 2 modifier ++ codes " "
    ++ hexadecimal (address_digits modifier) address ++ codes " end " ++ end_instant_text end
row_text (FreeCycle start modifier end) =
    codes "cycle " ++ decimal start ++ codes " F " ++ hexadecimal 2 modifier ++ codes " end " ++ end_instant_text end
row_text (InterruptCycle start level end) =
    codes "cycle " ++ decimal start ++ codes " I " ++ decimal level ++ codes " end " ++ end_instant_text end
row_text (Transfer direction line start cycle answer close lanes) =
    codes "transfer " ++ decimal start ++ codes " of " ++ decimal cycle ++ codes " " ++ direction_text direction
    ++ codes " "
    ++ answer_text line ++ codes " " ++ decimal answer ++ codes " close " ++ end_instant_text close ++ data_text lanes
row_text (PendingTransfer start direction) =
    codes "transfer " ++ decimal start ++ codes " " ++ direction_text direction ++ codes " pending"
row_text (Verdict outcome) = verdict_text outcome

-- the byte that ends each line
abbrev pub line_feed : ℕ
line_feed = 10

-- the first line of a listing
abbrev pub header : Version → List ℕ
header One = codes "vmecheck listing 1" ++ line_feed ∷ []
header Two = codes "vmecheck listing 2" ++ line_feed ∷ []
header Three = codes "vmecheck listing 3" ++ line_feed ∷ []

-- the line of a row
abbrev pub line_of : Row → List ℕ
line_of row = row_text row ++ line_feed ∷ []

-- the text of a listing
abbrev pub text_of : Listed → List ℕ
text_of l = header l.version ++ flat_map line_of l.rows
