-- What the variables of an annotated dump show: the text of each row of the listing from the row's first instant on,
-- and a hyphen from its end on.
use Rattle.std.specs.Prelude.{ℕ, ◌==◌, if◌then◌else◌, List, [], ◌∷◌, ◌++◌, filter, flat_map, map, codes, decimal}
use Rattle.std.specs.Prelude.{Option, None, Some}
use Rattle.vme_trace.specs.Cycle.{highest_address}
use Rattle.vme_trace.specs.Names.{line_name}
use Rattle.vme_trace.specs.Rules.{rule_name}
use Rattle.vme_trace.specs.declared.class.Class.{Class}
use Rattle.vme_trace.specs.declared.class.Class.TheVariants as class
use Rattle.vme_trace.specs.declared.data.Lanes.{Lanes}
use Rattle.vme_trace.specs.declared.rule.Rule.{Rule}
use Rattle.vme_listing.specs.RowText.{address_digits, hexadecimal, lanes_text}
use Rattle.vme_listing.specs.declared.row.AnswerLine.{AnswerLine}
use Rattle.vme_listing.specs.declared.row.AnswerLine.TheVariants.{Dtack, Berr}
use Rattle.vme_listing.specs.declared.row.Direction.{Direction}
use Rattle.vme_listing.specs.declared.row.Direction.TheVariants.{Read, Write}
use Rattle.vme_listing.specs.declared.row.ListedVerdict.{ListedVerdict}
use Rattle.vme_listing.specs.declared.row.ListedVerdict.TheVariants.{Conforming, NeverIdle, Broken, Unreadable}
use Rattle.vme_listing.specs.declared.row.Row.{Row}
use Rattle.vme_listing.specs.declared.row.Row.TheVariants.{Start, Reset, OpenTenure, Tenure, AddressedCycle}
use Rattle.vme_listing.specs.declared.row.Row.TheVariants.{FreeCycle, InterruptCycle, Transfer, PendingTransfer}
use Rattle.vme_listing.specs.declared.row.Row.TheVariants.{Verdict}
use Rattle.vme_annotation.specs.declared.shown_variable.ShownVariable.{ShownVariable}
use Rattle.vme_annotation.specs.declared.shown_variable.ShownVariable.TheVariants as shown

-- from `instant` on `variable` shows `text`
pub record ShownChange : Type 0 where
  pub instant : ℕ
  pub variable : ShownVariable
  pub text : List ℕ

-- the variables, in the order of their declarations
abbrev pub all_shown : List ShownVariable
all_shown = shown.Tenure ∷ shown.Cycle ∷ shown.Transfer ∷ shown.Verdict ∷ []

-- the text of a variable when nothing is in progress
abbrev pub idle_text : List ℕ
idle_text = codes "-"

-- `variable` shows `text` from `instant` on
abbrev pub change_to : ℕ → List ℕ → ShownVariable → ShownChange
change_to instant text variable = record { instant = instant; variable = variable; text = text }

-- from `end` on, if there is an end, the variable shows nothing
abbrev pub ends : ShownVariable → Option ℕ → List ShownChange
ends variable None = []
ends variable (Some end) = change_to end idle_text variable ∷ []

-- the variable shows `text` from `start` on, and nothing from `end` on, if there is an end
abbrev pub shows_until : ShownVariable → ℕ → List ℕ → Option ℕ → List ShownChange
shows_until variable start text end = change_to start text variable ∷ ends variable end

-- from `instant` on tenure, cycle and transfer show nothing
abbrev pub all_idle : ℕ → List ShownChange
all_idle instant = map (change_to instant idle_text) (shown.Tenure ∷ shown.Cycle ∷ shown.Transfer ∷ [])

-- ---- the texts

-- the name of the address space of an address modifier code, by its highest address line
abbrev pub space_text : ℕ → List ℕ
space_text modifier =
    if highest_address modifier == 31 then codes "A32"
    else if highest_address modifier == 23 then codes "A24" else codes "A16"

-- `_BLT` for the class of block transfers, nothing for another
abbrev pub block_text : Class → List ℕ
block_text class.K = codes "_BLT"
block_text class.S = []
block_text class.I = []
block_text class.F = []

-- the slot that the bus is granted to, and the level of the request
abbrev pub tenure_text : ℕ → ℕ → List ℕ
tenure_text level slot = codes "slot" ++ decimal slot ++ codes "_BR" ++ decimal level

-- the address space, `_BLT` for a block transfer, and the address in hexadecimal digits
abbrev pub address_text : Class → ℕ → ℕ → List ℕ
address_text class modifier address =
    space_text modifier ++ block_text class ++ codes "_" ++ hexadecimal (address_digits modifier) address

-- the direction of a transfer
abbrev pub direction_text : Direction → List ℕ
direction_text Read = codes "READ"
direction_text Write = codes "WRITE"

-- `_BERR` for an answer by BERR, nothing for one by DTACK
abbrev pub answer_text : AnswerLine → List ℕ
answer_text Dtack = []
answer_text Berr = codes "_BERR"

-- the data of a write, if there are any
abbrev pub data_text : Option Lanes → List ℕ
data_text None = []
data_text (Some lanes) = codes "_" ++ lanes_text lanes

-- the direction of an answered transfer, its data and its answer
abbrev pub transfer_text : Direction → AnswerLine → Option Lanes → List ℕ
transfer_text direction line lanes = direction_text direction ++ data_text lanes ++ answer_text line

-- the rule of a break and its line
abbrev pub break_text : Rule → ℕ → List ℕ
break_text rule line = rule_name rule ++ codes "_" ++ line_name line

-- the rule and the line of the verdict's break; nothing if there is no break
abbrev pub verdict_text : ListedVerdict → List ℕ
verdict_text Conforming = []
verdict_text NeverIdle = []
verdict_text (Broken rule instant line) = break_text rule line
verdict_text (Unreadable rule instant line) = break_text rule line

-- what is shown from the first instant of a row on
unfoldable pub shown_text : Row → List ℕ
shown_text (Start instant) = []
shown_text (Reset instant) = []
shown_text (OpenTenure start end) = codes "open"
shown_text (Tenure start level slot end) = tenure_text level slot
shown_text (AddressedCycle start class modifier address end) = address_text class modifier address
shown_text (FreeCycle start modifier end) = codes "AM" ++ hexadecimal 2 modifier
shown_text (InterruptCycle start level end) = codes "IACK" ++ decimal level
shown_text (Transfer direction line start cycle answer close lanes) = transfer_text direction line lanes
shown_text (PendingTransfer start direction) = direction_text direction ++ codes "_pending"
shown_text (Verdict outcome) = verdict_text outcome

-- ---- the rows

-- at a break tenure, cycle and transfer end, and the verdict shows `text`
abbrev pub break_changes : List ℕ → ℕ → List ShownChange
break_changes text instant = all_idle instant ++ change_to instant text shown.Verdict ∷ []

-- the changes that the row of a verdict makes, whose text is `text`
abbrev pub verdict_changes : List ℕ → ListedVerdict → List ShownChange
verdict_changes text Conforming = []
verdict_changes text NeverIdle = []
verdict_changes text (Broken rule instant line) = break_changes text instant
verdict_changes text (Unreadable rule instant line) = break_changes text instant

-- the changes that a row makes, whose text is `text`
abbrev pub changes_with : List ℕ → Row → List ShownChange
changes_with text (Start instant) = []
changes_with text (Reset instant) = all_idle instant
changes_with text (OpenTenure start end) = shows_until shown.Tenure start text end
changes_with text (Tenure start level slot end) = shows_until shown.Tenure start text end
changes_with text (AddressedCycle start class modifier address end) = shows_until shown.Cycle start text end
changes_with text (FreeCycle start modifier end) = shows_until shown.Cycle start text end
changes_with text (InterruptCycle start level end) = shows_until shown.Cycle start text end
changes_with text (Transfer direction line start cycle answer close lanes) = shows_until shown.Transfer start text close
changes_with text (PendingTransfer start direction) = shows_until shown.Transfer start text None
changes_with text (Verdict outcome) = verdict_changes text outcome

-- the changes that a row makes
unfoldable pub row_changes : Row → List ShownChange
row_changes row = changes_with (shown_text row) row

-- at the opening each variable shows nothing
abbrev pub opening_changes : List ShownChange
opening_changes = map (change_to 0 idle_text) all_shown

-- all changes: those of the opening, then those of each row, in the order of the rows
abbrev pub all_changes : List Row → List ShownChange
all_changes rows = opening_changes ++ flat_map row_changes rows

-- the changes at an instant
abbrev pub changes_at : List Row → ℕ → List ShownChange
changes_at rows instant = filter (λ c. c.instant == instant) (all_changes rows)
