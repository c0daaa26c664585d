-- The text of a row with the times of its instants: as in a listing, but each instant is followed by an at sign and its
-- time, in the time units of the dump.
use Rattle.std.specs.Prelude.{ℕ, zero, suc, List, ◌∷◌, [], ◌++◌, codes, decimal, get_or, Option, None, Some}
use Rattle.vme_trace.specs.Names.{line_name}
use Rattle.vme_trace.specs.Rules.{rule_name}
use Rattle.vme_trace.specs.declared.rule.Rule.{Rule}
use Rattle.vme_listing.specs.RowText.{address_digits, answer_text, class_text, data_text, direction_text, hexadecimal}
use Rattle.vme_listing.specs.declared.row.ListedVerdict.{ListedVerdict}
use Rattle.vme_listing.specs.declared.row.ListedVerdict.TheVariants.{Conforming, NeverIdle, Broken, Unreadable}
use Rattle.vme_listing.specs.declared.row.Row.{Row}
use Rattle.vme_listing.specs.declared.row.Row.TheVariants.{Start, Reset, OpenTenure, Tenure, AddressedCycle}
use Rattle.vme_listing.specs.declared.row.Row.TheVariants.{FreeCycle, InterruptCycle, Transfer, PendingTransfer}
use Rattle.vme_listing.specs.declared.row.Row.TheVariants.{Verdict}

module _ (times : List ℕ) where
  -- the time of an instant, by the times of the steps; instant 0 is the opening, and has a hyphen in its place
  abbrev pub time_text : ℕ → List ℕ
  time_text zero = codes "-"
  time_text (suc i) = decimal (get_or times i 0)

  -- an instant and its time
  abbrev pub timed : ℕ → List ℕ
  timed instant = decimal instant ++ codes "@" ++ time_text instant

  -- the instant of an end or a close and its time, or a hyphen where it isn't at a listed instant
  abbrev pub timed_end_instant : Option ℕ → List ℕ
  timed_end_instant None = codes "-"
  timed_end_instant (Some instant) = timed instant

  -- a break: its rule, its instant and time, and its line
  abbrev pub timed_break : Rule → ℕ → ℕ → List ℕ
  timed_break rule instant line = rule_name rule ++ codes " " ++ timed instant ++ codes " " ++ line_name line

  -- the verdict
  abbrev pub timed_verdict : ListedVerdict → List ℕ
  timed_verdict Conforming = codes "verdict conforming"
  timed_verdict NeverIdle = codes "verdict never-idle"
  timed_verdict (Broken rule instant line) = codes "verdict broken " ++ timed_break rule instant line
  timed_verdict (Unreadable rule instant line) = codes "verdict unreadable " ++ timed_break rule instant line

  -- the line of a row, without its line feed
  unfoldable pub timed_row : Row → List ℕ
  timed_row (Start instant) = codes "start " ++ timed instant
  timed_row (Reset instant) = codes "reset " ++ timed instant
  timed_row (OpenTenure start end) = codes "tenure " ++ timed start ++ codes " open end " ++ timed_end_instant end
  timed_row (Tenure start level slot end) =
      codes "tenure " ++ timed start ++ codes " level " ++ decimal level ++ codes " slot " ++ decimal slot
      ++ codes " end " ++ timed_end_instant end
  timed_row (AddressedCycle start class modifier address end) =
      codes "cycle " ++ timed start ++ codes " " ++ class_text class ++ codes " " ++ hexadecimal 2 modifier
      ++ codes " " ++ hexadecimal (address_digits modifier) address ++ codes " end " ++ timed_end_instant end
  timed_row (FreeCycle start modifier end) =
      codes "cycle " ++ timed start ++ codes " F " ++ hexadecimal 2 modifier ++ codes " end " ++ timed_end_instant end
  timed_row (InterruptCycle start level end) =
      codes "cycle " ++ timed start ++ codes " I " ++ decimal level ++ codes " end " ++ timed_end_instant end
  timed_row (Transfer direction line start cycle answer close lanes) =
      codes "transfer " ++ timed start ++ codes " of " ++ timed cycle ++ codes " " ++ direction_text direction
      ++ codes " " ++ answer_text line ++ codes " " ++ timed answer ++ codes " close " ++ timed_end_instant close
      ++ data_text lanes
  timed_row (PendingTransfer start direction) =
      codes "transfer " ++ timed start ++ codes " " ++ direction_text direction ++ codes " pending"
  timed_row (Verdict outcome) = timed_verdict outcome

  -- the line of a row
  abbrev pub timed_line : Row → List ℕ
  timed_line row = timed_row row ++ 10 ∷ []
