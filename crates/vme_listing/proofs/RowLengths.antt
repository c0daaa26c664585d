-- How long the text of a row is at most.
use Rattle.std.proofs.Common.{◌≡◌, ℕ, ◌+◌, ◌/◌, ◌^◌, ◌≤◌, Bool, true, false, length}
use Rattle.std.proofs.Common.{refl}
use Rattle.std.proofs.Common.{arith, length-append}
use Rattle.std.specs.Prelude.{Option, None, Some, ◌==◌, codes, decimal, nat_lt, nat_le, if◌then◌else◌}
use Rattle.std.specs.Fmt.{digits}
use Rattle.std.proofs.lemmas.Bool.{agree_below, agree_below_at, and_parts, eqb-true, leb-true, ltb-true}
use Rattle.vme_trace.specs.Cycle.{highest_address, is_extended, is_standard, is_short}
use Rattle.vme_trace.specs.LineNumbers.{line_count}
use Rattle.vme_trace.specs.Names.{line_name}
use Rattle.vme_trace.specs.Rules.{rule_name}
use Rattle.vme_trace.specs.declared.class.Class.{Class}
use Rattle.vme_trace.specs.declared.class.Class.TheVariants as class
use Rattle.vme_trace.specs.declared.data.Lanes.{Lanes}
use Rattle.vme_trace.specs.declared.rule.Rule.{Rule}
use Rattle.vme_trace.proofs.EveryRule.{every-rule}
use Rattle.vme_listing.specs.Listed.{includes_resets}
use Rattle.vme_listing.specs.Places.{has_class, has_data, is_address, is_allowed_outcome, is_end_instant, is_number}
use Rattle.vme_listing.specs.Places.{is_row}
use Rattle.vme_listing.specs.RowText.{address_digits, answer_text, break_text, class_text, data_text, direction_text}
use Rattle.vme_listing.specs.RowText.{end_instant_text, line_of, row_text}
use Rattle.vme_listing.specs.declared.row.AnswerLine.{AnswerLine}
use Rattle.vme_listing.specs.declared.row.AnswerLine.TheVariants.{Dtack, Berr}
use Rattle.vme_listing.specs.declared.row.Direction.{Direction}
use Rattle.vme_listing.specs.declared.row.Direction.TheVariants.{Read, Write}
use Rattle.vme_listing.specs.declared.row.ListedVerdict.{ListedVerdict}
use Rattle.vme_listing.specs.declared.row.ListedVerdict.TheVariants.{Conforming, NeverIdle, Broken, Unreadable}
use Rattle.vme_listing.specs.declared.row.Row.{Row}
use Rattle.vme_listing.specs.declared.row.Row.TheVariants.{Start, Reset, OpenTenure, Tenure, AddressedCycle, FreeCycle}
use Rattle.vme_listing.specs.declared.row.Row.TheVariants.{InterruptCycle, Transfer, PendingTransfer, Verdict}
use Rattle.vme_listing.specs.declared.row.Version.{Version}
use Rattle.vme_listing.proofs.Conjunctions.{and_parts-five, and_parts-four, and_parts-three}
use Rattle.vme_listing.proofs.Digits.{decimal-short, length-hexadecimal}
use Rattle.vme_listing.proofs.FrontHexadecimals.{lanes-length}

-- the decimal text of a number of a row has at most 10 bytes
number-short : (n : ℕ) → is_number n ≡ true → length (decimal n) ≤ 10
number-short n h = decimal-short n (ltb-true n (2 ^ 32) h)

-- the text of the instant of an end, or of its absence, has at most 10 bytes
end_instant-short : (end : Option ℕ) → is_end_instant end ≡ true → length (end_instant_text end) ≤ 10
end_instant-short None h = omega arith
end_instant-short (Some n) h = number-short n h

-- the text of the class of a cycle has at most 1 byte
class-short : (class : Class) → length (class_text class) ≤ 1
class-short class.S = omega arith
class-short c = omega arith

-- the text of the direction of a transfer has at most 5 bytes
direction-short : (direction : Direction) → length (direction_text direction) ≤ 5
direction-short Read = omega arith
direction-short Write = omega arith

-- the text of the line of an answer has at most 5 bytes
answer-short : (line : AnswerLine) → length (answer_text line) ≤ 5
answer-short Dtack = omega arith
answer-short Berr = omega arith

-- the text of the data of a transfer has at most 14 bytes
data-short : (lanes : Option Lanes) → length (data_text lanes) ≤ 14
data-short None = omega arith
data-short (Some a) = omega (arith, lanes-length a, length-append {A = ℕ})

-- an address of the width that these tests choose has at most 8 digits in base 16
digits-at_most_8 : (extended standard short : Bool)
    → ((if extended then 31 else if standard then 23 else if short then 15 else 0) + 1) / 4 ≤ 8
digits-at_most_8 true standard short = omega arith
digits-at_most_8 false true short = omega arith
digits-at_most_8 false false true = omega arith
digits-at_most_8 false false false = omega arith

-- an address has at most 8 digits in base 16, whatever its modifier code
address_digits-at_most_8 : (modifier : ℕ) → address_digits modifier ≤ 8
unfolding highest_address
address_digits-at_most_8 modifier = digits-at_most_8 (is_extended modifier) (is_standard modifier) (is_short modifier)

-- the name of a rule has 2 bytes
rule-short : (rule : Rule) → length (rule_name rule) ≡ 2
rule-short rule = eqb-true (length (rule_name rule)) 2 (every-rule (λ r. length (rule_name r) == 2) refl rule)

-- the names of all lines of the bus, tried one by one, have at most 16 bytes
line_names-short : agree_below (λ l. nat_le (length (line_name l)) 16) (λ l. true) line_count ≡ true
unfolding digits
line_names-short = refl

-- the name of a line of the bus has at most 16 bytes
line_name-short : (line : ℕ) → nat_lt line line_count ≡ true → length (line_name line) ≤ 16
line_name-short line h = leb-true (length (line_name line)) 16
    (agree_below_at (λ l. nat_le (length (line_name l)) 16) (λ l. true) line_count line line_names-short
    (ltb-true line line_count h))

-- the text of a break has at most 30 bytes
break-short : (rule : Rule) (instant line : ℕ) → is_number instant ≡ true → nat_lt line line_count ≡ true
    → length (break_text rule instant line) ≤ 30
break-short rule instant line p q =
    simp length-append (omega (arith, rule-short rule, number-short instant p, line_name-short line q))

-- the text of the row of an allowed verdict has at most 95 bytes
outcome-short : (outcome : ListedVerdict) → is_allowed_outcome outcome ≡ true → length (row_text (Verdict outcome)) ≤ 95
unfolding row_text
outcome-short Conforming h = omega arith
outcome-short NeverIdle h = omega arith
outcome-short (Broken rule instant line) h =
    let p = and_parts-three _ (is_number instant) (nat_lt line line_count) h in
    let short = break-short rule instant line p.1 p.2 in
    omega (arith, short, length-append (codes "verdict broken ") (break_text rule instant line))
outcome-short (Unreadable rule instant line) h =
    let p = and_parts-three _ (is_number instant) (nat_lt line line_count) h in
    let short = break-short rule instant line p.1 p.2 in
    omega (arith, short, length-append (codes "verdict unreadable ") (break_text rule instant line))

-- the text of a row that its form allows has at most 95 bytes
row-short : (version : Version) (row : Row) → is_row version row ≡ true → length (row_text row) ≤ 95
unfolding is_row row_text
row-short version (Start instant) h = simp length-append (omega (arith, number-short instant h))
row-short version (Reset instant) h =
    let n = number-short instant (and_parts (includes_resets version) (is_number instant) h).1 in
    simp length-append (omega (arith, n))
row-short version (OpenTenure start end) h =
    let p = and_parts (is_number start) (is_end_instant end) h in
    simp length-append (omega (arith, number-short start p.0, end_instant-short end p.1))
row-short version (Tenure start level slot end) h =
    let p = and_parts-five (is_number start) (nat_lt level 4) (nat_le 1 slot) (nat_le slot 21) (is_end_instant end) h in
    let l = decimal-short level (omega (arith, ltb-true level 4 p.1)) in
    let n = decimal-short slot (omega (arith, leb-true slot 21 p.3)) in
    simp length-append (omega (arith, number-short start p.0, l, n, end_instant-short end p.4))
row-short version (AddressedCycle start class modifier address end) h =
    let p = and_parts-four (is_number start) (has_class modifier class) (is_address modifier address)
    (is_end_instant end) h in
    let s = number-short start p.0 in
    let k = class-short class in
    let m = length-hexadecimal 2 modifier in
    let n = length-hexadecimal (address_digits modifier) address in
    simp length-append (omega (arith, s, k, m, n, address_digits-at_most_8 modifier, end_instant-short end p.3))
row-short version (FreeCycle start modifier end) h =
    let p = and_parts-four (is_number start) (nat_lt modifier 64) (highest_address modifier == 0)
    (is_end_instant end) h in
    let m = length-hexadecimal 2 modifier in
    simp length-append (omega (arith, number-short start p.0, m, end_instant-short end p.3))
row-short version (InterruptCycle start level end) h =
    let p = and_parts-three (is_number start) (nat_lt level 8) (is_end_instant end) h in
    let l = decimal-short level (omega (arith, ltb-true level 8 p.1)) in
    simp length-append (omega (arith, number-short start p.0, l, end_instant-short end p.2))
row-short version (Transfer direction line start cycle answer close lanes) h =
    let p = and_parts-five (is_number start) (is_number cycle) (is_number answer) (is_end_instant close)
    (has_data version direction lanes) h in
    let s = number-short start p.0 in
    let i = number-short cycle p.1 in
    let w = direction-short direction in
    let l = answer-short line in
    let n = number-short answer p.2 in
    simp length-append (omega (arith, s, i, w, l, n, end_instant-short close p.3, data-short lanes))
row-short version (PendingTransfer start direction) h =
    simp length-append (omega (arith, number-short start h, direction-short direction))
row-short version (Verdict outcome) h = outcome-short outcome h

-- the line of a row, with its line feed, has at most 96 bytes
pub line_of-at_most_96 : (version : Version) (row : Row) → is_row version row ≡ true → length (line_of row) ≤ 96
line_of-at_most_96 version row h =
    simp length-append (omega (arith, row-short version row h))
