-- The text of a row has no line feed, so a row's line ends at the first line feed from its start on.
use Rattle.std.proofs.Common.{◌≡◌, ℕ, ◌+◌, ◌^◌, ◌<◌, Bool, true, false, not, List, [], ◌∷◌, ◌++◌, take, drop, get_or}
use Rattle.std.proofs.Common.{length, refl, sym, ap, ◌∙◌, subst, arith, inl, inr, ◌⊎◌, length-append}
use Rattle.std.specs.Prelude.{Option, None, Some, ◌==◌, decimal, nat_lt, nat_le}
use Rattle.std.specs.List.{list_all}
use Rattle.std.specs.Fmt.{digits}
use Rattle.std.proofs.lemmas.Bool.{agree_below, agree_below_at, and_from, and_parts, cases_order, eq-eqb, leb-true}
use Rattle.std.proofs.lemmas.Bool.{ltb-true, ne_eqb, true≢false}
use Rattle.std.proofs.lemmas.List.{append_assoc, drop_at, get_or_append_left, take_at}
use Rattle.std.proofs.lemmas.List.Folds.{list_all-append, list_all_at}
use Rattle.std.proofs.Math.Seq.{get_or-append_seam}
use Rattle.memchr.specs.Find.{IsFirstByte, is_byte}
use Rattle.vme_trace.specs.Cycle.{highest_address}
use Rattle.vme_trace.specs.LineNumbers.{line_count}
use Rattle.vme_trace.specs.Rules.{rule_name}
use Rattle.vme_trace.specs.Names.{line_name}
use Rattle.vme_trace.specs.declared.class.Class.{Class}
use Rattle.vme_trace.specs.declared.class.Class.TheVariants as class
use Rattle.vme_trace.specs.declared.rule.Rule.{Rule}
use Rattle.vme_trace.specs.declared.data.Lanes.{Lanes}
use Rattle.vme_trace.proofs.EveryRule.{every-rule}
use Rattle.vme_listing.proofs.Conjunctions.{and_parts-five, and_parts-four, and_parts-three}
use Rattle.vme_listing.proofs.Glyphs.{are_glyphs, are_glyphs-decimal, are_glyphs-hexadecimal}
use Rattle.vme_listing.proofs.LaneTexts.{lanes_text-no_line_feed}
use Rattle.vme_listing.specs.Listed.{includes_resets}
use Rattle.vme_listing.specs.Places.{is_number, is_end_instant, has_class, is_address, is_allowed_outcome, has_data}
use Rattle.vme_listing.specs.Places.{is_row}
use Rattle.vme_listing.specs.RowText.{end_instant_text, hexadecimal, address_digits, class_text, direction_text}
use Rattle.vme_listing.specs.RowText.{answer_text, data_text, break_text, row_text, line_of}
use Rattle.vme_listing.specs.declared.row.AnswerLine.{AnswerLine}
use Rattle.vme_listing.specs.declared.row.AnswerLine.TheVariants.{Dtack, Berr}
use Rattle.vme_listing.specs.declared.row.Direction.{Direction}
use Rattle.vme_listing.specs.declared.row.Direction.TheVariants.{Read, Write}
use Rattle.vme_listing.specs.declared.row.ListedVerdict.{ListedVerdict}
use Rattle.vme_listing.specs.declared.row.ListedVerdict.TheVariants.{Conforming, NeverIdle, Broken, Unreadable}
use Rattle.vme_listing.specs.declared.row.Version.{Version}
use Rattle.vme_listing.specs.declared.row.Row.{Row}
use Rattle.vme_listing.specs.declared.row.Row.TheVariants.{Start, Reset, OpenTenure, Tenure, AddressedCycle, FreeCycle}
use Rattle.vme_listing.specs.declared.row.Row.TheVariants.{InterruptCycle, Transfer, PendingTransfer, Verdict}

-- the byte is another one than a line feed
abbrev pub is_no_line_feed : ℕ → Bool
is_no_line_feed b = not (b == 10)

-- no byte is a line feed
abbrev pub has_no_line_feed : List ℕ → Bool
has_no_line_feed text = list_all is_no_line_feed text

-- a word of digits and letters has no line feed
has_no_line_feed-glyphs : (word : List ℕ) → are_glyphs word ≡ true → has_no_line_feed word ≡ true
has_no_line_feed-glyphs [] h = refl
has_no_line_feed-glyphs (byte ∷ word) h =
    let p = and_parts (nat_le 48 byte) (are_glyphs word) h in
    and_from (is_no_line_feed byte) (has_no_line_feed word)
    (ap not (ne_eqb byte 10 (λ e. omega (arith, leb-true 48 byte p.0))))
    (has_no_line_feed-glyphs word p.1)

-- the decimal text of a number below 2^32 has no line feed
has_no_line_feed-decimal : (n : ℕ) → n < 2 ^ 32 → has_no_line_feed (decimal n) ≡ true
has_no_line_feed-decimal n h = has_no_line_feed-glyphs (decimal n) (are_glyphs-decimal n (omega arith))

-- the decimal text of a number of a row has no line feed
has_no_line_feed-number : (n : ℕ) → is_number n ≡ true → has_no_line_feed (decimal n) ≡ true
has_no_line_feed-number n h = has_no_line_feed-decimal n (ltb-true n (2 ^ 32) h)

-- the text of the instant of an end, or of its absence, has no line feed
has_no_line_feed-end_instant : (end : Option ℕ) → is_end_instant end ≡ true
    → has_no_line_feed (end_instant_text end) ≡ true
has_no_line_feed-end_instant None h = refl
has_no_line_feed-end_instant (Some n) h = has_no_line_feed-number n h

-- a number in base 16 has no line feed
has_no_line_feed-hexadecimal : (k n : ℕ) → has_no_line_feed (hexadecimal k n) ≡ true
has_no_line_feed-hexadecimal k n = has_no_line_feed-glyphs (hexadecimal k n) (are_glyphs-hexadecimal k n)

-- the text of the class of a cycle has no line feed
has_no_line_feed-class : (class : Class) → has_no_line_feed (class_text class) ≡ true
has_no_line_feed-class class.S = refl
has_no_line_feed-class c = refl

-- the text of the direction of a transfer has no line feed
has_no_line_feed-direction : (direction : Direction) → has_no_line_feed (direction_text direction) ≡ true
has_no_line_feed-direction Read = refl
has_no_line_feed-direction Write = refl

-- the text of the line of an answer has no line feed
has_no_line_feed-answer : (line : AnswerLine) → has_no_line_feed (answer_text line) ≡ true
has_no_line_feed-answer Dtack = refl
has_no_line_feed-answer Berr = refl

-- the text of the data of a transfer has no line feed
has_no_line_feed-data : (lanes : Option Lanes) → has_no_line_feed (data_text lanes) ≡ true
has_no_line_feed-data None = refl
has_no_line_feed-data (Some a) = lanes_text-no_line_feed a

-- the name of a rule has no line feed
has_no_line_feed-rule : (rule : Rule) → has_no_line_feed (rule_name rule) ≡ true
has_no_line_feed-rule rule = every-rule (λ r. has_no_line_feed (rule_name r)) refl rule

-- the names of all lines of the bus, tried one by one, have no line feed
has_no_line_feed-line_names : agree_below (λ l. has_no_line_feed (line_name l)) (λ l. true) line_count ≡ true
unfolding digits
has_no_line_feed-line_names = refl

-- the name of a line of the bus has no line feed
has_no_line_feed-line : (line : ℕ) → nat_lt line line_count ≡ true → has_no_line_feed (line_name line) ≡ true
has_no_line_feed-line line h = agree_below_at (λ l. has_no_line_feed (line_name l)) (λ l. true) line_count line
    has_no_line_feed-line_names
    (ltb-true line line_count h)

-- the text of a break has no line feed
has_no_line_feed-break : (rule : Rule) (instant line : ℕ) → is_number instant ≡ true → nat_lt line line_count ≡ true
    → has_no_line_feed (break_text rule instant line) ≡ true
has_no_line_feed-break rule instant line p q =
    let r = has_no_line_feed-rule rule in
    let n = has_no_line_feed-number instant p in
    let l = has_no_line_feed-line line q in
    simp (list_all-append, r, n, l)

-- the text of an allowed verdict has no line feed
has_no_line_feed-outcome : (outcome : ListedVerdict) → is_allowed_outcome outcome ≡ true
    → has_no_line_feed (row_text (Verdict outcome)) ≡ true
unfolding row_text
has_no_line_feed-outcome Conforming h = refl
has_no_line_feed-outcome NeverIdle h = refl
has_no_line_feed-outcome (Broken rule instant line) h = let p =
    and_parts-three _ (is_number instant) (nat_lt line line_count) h in
    has_no_line_feed-break rule instant line p.1 p.2
has_no_line_feed-outcome (Unreadable rule instant line) h = let p =
    and_parts-three _ (is_number instant) (nat_lt line line_count) h in
    has_no_line_feed-break rule instant line p.1 p.2

-- the text of a row that its form allows has no line feed
pub has_no_line_feed-row : (version : Version) (row : Row) → is_row version row ≡ true → has_no_line_feed (row_text row)
    ≡ true
unfolding is_row row_text
has_no_line_feed-row version (Start instant) h = has_no_line_feed-number instant h
has_no_line_feed-row version (Reset instant) h = has_no_line_feed-number instant
    (and_parts (includes_resets version) (is_number instant) h).1
has_no_line_feed-row version (OpenTenure start end) h =
    let p = and_parts (is_number start) (is_end_instant end) h in
    let s = has_no_line_feed-number start p.0 in
    let e = has_no_line_feed-end_instant end p.1 in
    simp (list_all-append, s, e)
has_no_line_feed-row version (Tenure start level slot end) h =
    let p = and_parts-five (is_number start) (nat_lt level 4) (nat_le 1 slot) (nat_le slot 21) (is_end_instant end) h in
    let s = has_no_line_feed-number start p.0 in
    let l = has_no_line_feed-decimal level (omega (arith, ltb-true level 4 p.1)) in
    let n = has_no_line_feed-decimal slot (omega (arith, leb-true slot 21 p.3)) in
    let e = has_no_line_feed-end_instant end p.4 in
    simp (list_all-append, s, l, n, e)
has_no_line_feed-row version (AddressedCycle start class modifier address end) h =
    let p = and_parts-four (is_number start) (has_class modifier class) (is_address modifier address)
    (is_end_instant end) h in
    let s = has_no_line_feed-number start p.0 in
    let k = has_no_line_feed-class class in
    let m = has_no_line_feed-hexadecimal 2 modifier in
    let a = has_no_line_feed-hexadecimal (address_digits modifier) address in
    let e = has_no_line_feed-end_instant end p.3 in
    simp (list_all-append, s, k, m, a, e)
has_no_line_feed-row version (FreeCycle start modifier end) h =
    let p = and_parts-four (is_number start) (nat_lt modifier 64) (highest_address modifier == 0)
    (is_end_instant end) h in
    let s = has_no_line_feed-number start p.0 in
    let m = has_no_line_feed-hexadecimal 2 modifier in
    let e = has_no_line_feed-end_instant end p.3 in
    simp (list_all-append, s, m, e)
has_no_line_feed-row version (InterruptCycle start level end) h =
    let p = and_parts-three (is_number start) (nat_lt level 8) (is_end_instant end) h in
    let s = has_no_line_feed-number start p.0 in
    let l = has_no_line_feed-decimal level (omega (arith, ltb-true level 8 p.1)) in
    let e = has_no_line_feed-end_instant end p.2 in
    simp (list_all-append, s, l, e)
has_no_line_feed-row version (Transfer direction line start cycle answer close lanes) h =
    let p = and_parts-five (is_number start) (is_number cycle) (is_number answer) (is_end_instant close)
    (has_data version direction lanes) h in
    let s = has_no_line_feed-number start p.0 in
    let i = has_no_line_feed-number cycle p.1 in
    let d = has_no_line_feed-direction direction in
    let l = has_no_line_feed-answer line in
    let a = has_no_line_feed-number answer p.2 in
    let e = has_no_line_feed-end_instant close p.3 in
    let w = has_no_line_feed-data lanes in
    simp (list_all-append, s, i, d, l, a, e, w)
has_no_line_feed-row version (PendingTransfer start direction) h =
    let s = has_no_line_feed-number start h in
    let d = has_no_line_feed-direction direction in
    simp (list_all-append, s, d)
has_no_line_feed-row version (Verdict outcome) h = has_no_line_feed-outcome outcome h

-- the first line feed after a line that has none is at the length of the line
first_line_feed-after_line : (line more : List ℕ) (end : ℕ) → has_no_line_feed line ≡ true
    → IsFirstByte (is_byte 10) (line ++ 10 ∷ more)
    (Some end) → end ≡ length line
first_line_feed-after_line line more end inside f = by_order (cases_order end (length line))
  where
    within : end < length line → ⊥
    within h =
        let here : (get_or line end 0 == 10) ≡ true = ap (λ b. b == 10)
        (sym (get_or_append_left line (10 ∷ more) 0 end h)) ∙ f.1 in
        true≢false (sym inside ∙ list_all_at is_no_line_feed line end 0 h (ap not here))

    behind : length line < end → ⊥
    behind h = f.0.before (length line) (omega arith) h (eq-eqb _ _ (get_or-append_seam line 10 more 0))

    by_order : (end ≡ length line) ⊎ ((end < length line) ⊎ (length line < end)) → end ≡ length line
    by_order (inl e) = e
    by_order (inr (inl h)) = absurd (within h)
    by_order (inr (inr h)) = absurd (behind h)

-- where the line of a row is at the start of a text, the first line feed of the text ends it
pub first_line_feed-after_row : (version : Version) (text : List ℕ) (end : ℕ) (row : Row) (more : List ℕ)
    → IsFirstByte (is_byte 10)
    text (Some end) → is_row version row ≡ true → text ≡ line_of row ++ more → (row_text row ≡ take end text)
    × (drop (end + 1) text ≡ more)
first_line_feed-after_row version text end row more f h e =
    let line = row_text row in
    let split : text ≡ line ++ 10 ∷ more = e ∙ append_assoc line (10 ∷ []) more in
    let n : end ≡ length line = first_line_feed-after_line line more end (has_no_line_feed-row version row h)
    (subst (λ t. IsFirstByte (is_byte 10) t (Some end)) split f) in
    let after : length (line ++ 10 ∷ []) ≡ end + 1 = omega (arith, length-append line (10 ∷ [])) in (
      sym (ap (take end) split ∙ take_at line (10 ∷ more) end (sym n)),
      ap (drop (end + 1)) e ∙ drop_at (line ++ 10 ∷ [])
          more (end + 1) after,
    )
