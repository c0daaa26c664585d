-- Each row that its form allows is read from its own text, piece by piece. A piece is a number, a
-- name or the data of a row: functions `.._at` read it, and `past_..` give what is left of the line after it (`Lines`).
use Rattle.std.proofs.Common.{◌≡◌, ◌==◌, ℕ, ◌^◌, ◌<◌, ◌≤◌, true, false, ◌&&◌, List, []}
use Rattle.std.proofs.Common.{◌∷◌}
use Rattle.std.proofs.Common.{◌++◌, drop, length, take, refl, sym, ap, ◌∙◌, arith, append_assoc, length-append}
use Rattle.std.specs.Prelude.{Option, None, Some, codes, decimal, nat_le, nat_lt, if◌then◌else◌}
use Rattle.std.specs.Char.{is_ascii_digit}
use Rattle.std.specs.Option.{is_some}
use Rattle.std.proofs.lemmas.Bool.{and_parts, eqb-true, leb-true, ltb-true, lt-ltb}
use Rattle.std.proofs.lemmas.Bool.Decides.{nat_tests}
use Rattle.std.proofs.lemmas.Fmt.{decimal_nonempty}
use Rattle.std.proofs.lemmas.List.{append-nil, drop_at, take_at}
use Rattle.vme_trace.specs.Cycle.{highest_address}
use Rattle.vme_trace.specs.LineNumbers.{line_count}
use Rattle.vme_trace.specs.Names.{line_name, rule_named}
use Rattle.vme_trace.specs.Rules.{rule_name}
use Rattle.vme_trace.specs.declared.class.Class.{Class}
use Rattle.vme_trace.specs.declared.class.Class.TheVariants as class
use Rattle.vme_trace.specs.declared.data.Lanes.{Lanes}
use Rattle.vme_trace.specs.declared.rule.Rule.{Rule}
use Rattle.vme_trace.proofs.EveryRule.{every-rule}
use Rattle.vme_trace.proofs.NameLaws.{line_named-is, rule_named-is}
use Rattle.vme_listing.specs.declared.row.AnswerLine.{AnswerLine}
use Rattle.vme_listing.specs.declared.row.AnswerLine.TheVariants.{Dtack, Berr}
use Rattle.vme_listing.specs.declared.row.Direction.{Direction}
use Rattle.vme_listing.specs.declared.row.Direction.TheVariants.{Read, Write}
use Rattle.vme_listing.specs.declared.row.ListedVerdict.{ListedVerdict}
use Rattle.vme_listing.specs.declared.row.ListedVerdict.TheVariants.{Conforming, NeverIdle, Broken, Unreadable}
use Rattle.vme_listing.specs.declared.row.Version.{Version}
use Rattle.vme_listing.specs.declared.row.Row.{Row}
use Rattle.vme_listing.specs.declared.row.Row.TheVariants.{Start, Reset, OpenTenure, Tenure, AddressedCycle}
use Rattle.vme_listing.specs.declared.row.Row.TheVariants.{FreeCycle, InterruptCycle, Transfer, PendingTransfer}
use Rattle.vme_listing.specs.declared.row.Row.TheVariants.{Verdict}
use Rattle.vme_listing.specs.Listed.{includes_data, includes_resets}
use Rattle.vme_listing.specs.Places.{has_class, has_data, is_address, is_allowed_data, is_allowed_outcome}
use Rattle.vme_listing.specs.Places.{is_end_instant, is_number, is_row, is_write}
use Rattle.vme_listing.specs.RowText.{address_digits, answer_text, class_text, data_text, direction_text}
use Rattle.vme_listing.specs.RowText.{end_instant_text, hexadecimal, lanes_text, row_text}
use Rattle.vme_listing.specs.Lines.{Rest, after_word, answer_at, break_by, break_in, cycle_at, data_at}
use Rattle.vme_listing.specs.Lines.{direction_at, end_instant_at, hexadecimal_at, hexadecimal_in, lanes_in, line_in}
use Rattle.vme_listing.specs.Lines.{modifier_at, named_break, no_lanes, number_at, number_in, or_other, outcome_in}
use Rattle.vme_listing.specs.Lines.{past}
use Rattle.vme_listing.specs.Lines.{past_answer, past_cycle, past_data, past_direction, past_end_instant}
use Rattle.vme_listing.specs.Lines.{past_hexadecimal, past_modifier, past_number, past_read, past_small, past_tenure}
use Rattle.vme_listing.specs.Lines.{past_transfer, row_in, small_at, tenure_at, transfer_at, verdict_by}
use Rattle.vme_listing.proofs.Addresses.{HasDigits, HasDigits-of_address}
use Rattle.vme_listing.proofs.Conjunctions.{and_parts-five, and_parts-four, and_parts-three}
use Rattle.vme_listing.proofs.Digits.{length-hexadecimal}
use Rattle.vme_listing.proofs.FrontDigits.{bytes_eq-refl}
use Rattle.vme_listing.proofs.FrontHexadecimals.{lanes-length}
use Rattle.vme_listing.proofs.LaneTexts.{lanes_of-lanes_text}
use Rattle.vme_listing.proofs.Numerals.{number_of-hexadecimal}
use Rattle.vme_listing.proofs.Pieces.{after_word-is, are_digits, are_digits-decimal, is_end, number_in-is}
use Rattle.vme_listing.proofs.Pieces.{past_piece-is}
use Rattle.vme_listing.proofs.Pieces.{piece-is}

-- a number below 2^32 that has k digits in base 16 is read from these
pub hexadecimal_in-is : (k n : ℕ) (more : List ℕ) → n < 16 ^ k → n < 2 ^ 32
    → hexadecimal_in k (hexadecimal k n ++ more) ≡ Some n
unfolding hexadecimal_in
hexadecimal_in-is k n more in_digits below =
    rw (
      take_at (hexadecimal k n) more k (length-hexadecimal k n),
      number_of-hexadecimal k n in_digits below,
      bytes_eq-refl (hexadecimal k n),
    ) refl

-- the data of a write (`Lanes`), if its form allows it, is read from its text
pub lanes_in-is : (a : Lanes) (more : List ℕ) → is_allowed_data a ≡ true → lanes_in (lanes_text a ++ more) ≡ Some a
unfolding lanes_in
lanes_in-is a more h =
    rw (take_at (lanes_text a) more 8 (lanes-length a), lanes_of-lanes_text a h, bytes_eq-refl (lanes_text a)) refl

-- ---- the pieces of a row

-- reading the line with `at` gives x, and `past` leaves `more`
abbrev Piece : {A : Type 0} → (Rest → A) → (Rest → Rest) → List ℕ → A → List ℕ → Type 0
Piece at past line x more = (at (Some line) ≡ x) × (past (Some line) ≡ Some more)

-- the number n, and the text `more` after it, with which a word may end
module _ (n : ℕ) (more : List ℕ) (end : is_end more ≡ true) where
  -- a number below 2^32 is read from its decimal text, if no digit follows
  Piece-number : n < 2 ^ 32 → Piece number_at past_number (decimal n ++ more) n more
  Piece-number below =
      let read = number_in-is n more below end in
      (piece-is number_in decimal 0 n more read, past_piece-is number_in decimal 0 n more read)

  -- a number below 256 is read from its decimal text, if no digit follows
  Piece-small : n < 256 → Piece small_at past_small (decimal n ++ more) n more
  Piece-small below =
      let read = Piece-number (omega arith) in
      let within = lt-ltb n 256 below in (
        ap (λ m. if nat_lt m 256 then m else 0) read.0 ∙ (rw within refl),
        ap (λ m. if nat_lt m 256 then past_number (Some (decimal n ++ more)) else None) read.0 ∙ (rw within read.1),
      )

-- a digit is no hyphen
hyphen-no_digit : (byte : ℕ) → is_ascii_digit byte ≡ true → (45 == byte) ≡ false
hyphen-no_digit byte h = grind (arith, nat_tests)

-- a text that begins with digits doesn't begin with a hyphen
after_word-no_hyphen : (ds more : List ℕ) → are_digits ds ≡ true → 0 < length ds → after_word (codes "-") (ds ++ more)
    ≡ None
after_word-no_hyphen [] more h some = absurd (omega arith)
after_word-no_hyphen (byte ∷ ds) more h some =
    rw (hyphen-no_digit byte (and_parts (is_ascii_digit byte) (are_digits ds) h).0) refl

-- the instant of an end, or its absence, is read from its text, if no digit follows
Piece-end_instant : (more : List ℕ) → is_end more ≡ true → (end : Option ℕ) → is_end_instant end ≡ true
    → Piece end_instant_at past_end_instant (end_instant_text end ++ more) end more
Piece-end_instant more stop None h = (refl, refl)
Piece-end_instant more stop (Some n) h =
    let below = ltb-true n (2 ^ 32) h in
    let digits = are_digits-decimal n (omega (arith, below)) in
    let none = after_word-no_hyphen (decimal n) more digits (decimal_nonempty n (omega (arith, below))) in
    let read = Piece-number n more stop below in
    let left : Rest = Some (decimal n ++ more) in (
      ap (λ (o : Rest). if is_some o then None else Some (number_at left)) none ∙ ap Some read.0,
      ap (λ (o : Rest). if is_some o then o else past_number left) none ∙ read.1,
    )

-- the instant of an end, or its absence, is read from its text at the end of a line, and nothing is left
Piece-last_end_instant : (end : Option ℕ) → is_end_instant end ≡ true
    → Piece end_instant_at past_end_instant (end_instant_text end) end []
Piece-last_end_instant end h =
    let e = sym (append-nil (end_instant_text end)) in
    let read = Piece-end_instant [] refl end h in
    (ap (λ t. end_instant_at (Some t)) e ∙ read.0, ap (λ t. past_end_instant (Some t)) e ∙ read.1)

-- an address below 2^32 is read from its k digits in base 16
Piece-address : (k n : ℕ) (more : List ℕ) → n < 16 ^ k → n < 2 ^ 32
    → Piece (λ left. hexadecimal_at left k) (λ left. past_hexadecimal left k) (hexadecimal k n ++ more) n more
Piece-address k n more in_digits below =
    let read = hexadecimal_in-is k n more in_digits below in (
      piece-is (hexadecimal_in k) (hexadecimal k) 0 n more read,
      past_piece-is (hexadecimal_in k) (hexadecimal k) 0 n more
          read,
    )

-- a modifier code is read from its two digits in base 16
Piece-modifier : (n : ℕ) (more : List ℕ) → n < 64 → Piece modifier_at past_modifier (hexadecimal 2 n ++ more) n more
Piece-modifier n more below =
    let read = Piece-address 2 n more (omega arith) (omega arith) in
    let within = lt-ltb n 256 (omega arith) in (
      ap (λ m. if nat_lt m 256 then m else 0) read.0 ∙ (rw within refl),
      ap (λ m. if nat_lt m 256 then past_hexadecimal (Some (hexadecimal 2 n ++ more)) 2 else None) read.0
          ∙ (rw within read.1),
    )

-- the direction of a transfer is read from its text, after a space
Piece-direction : (d : Direction) (more : List ℕ)
    → Piece direction_at past_direction (codes " " ++ (direction_text d ++ more)) d more
Piece-direction Read more = (refl, refl)
Piece-direction Write more = (refl, refl)

-- the line of an answer is read from its text, between two spaces
Piece-answer_line : (a : AnswerLine) (more : List ℕ)
    → Piece answer_at past_answer (codes " " ++ (answer_text a ++ (codes " " ++ more))) a more
Piece-answer_line Dtack more = (refl, refl)
Piece-answer_line Berr more = (refl, refl)

-- the data that a transfer of this version and direction may have is read from its text at the end of a line
Piece-last_data : (version : Version) (d : Direction) (o : Option Lanes) → has_data version d o ≡ true
    → Piece data_at past_data (data_text o) o []
Piece-last_data version d None h = (refl, refl)
Piece-last_data version d (Some a) h =
    let is = (and_parts (includes_data version && is_write d) (is_allowed_data a) h).1 in
    let e = sym (append-nil (lanes_text a)) in
    let read = ap lanes_in e ∙ lanes_in-is a [] is in (
      ap (λ (o : Option Lanes). Some (or_other lanes_in no_lanes o)) read,
      ap (λ (o : Option Lanes). past_read lanes_in lanes_text o (lanes_text a)) read ∙ ap (after_word (lanes_text a)) e
          ∙ after_word-is (lanes_text a) [],
    )

-- ---- each kind of row

-- the row is read from its own text
abbrev IsRead : Row → Type 0
IsRead row = row_in (row_text row) ≡ Some row

-- a number of a row is below 2^32
is_number-below : (n : ℕ) → is_number n ≡ true → n < 2 ^ 32
is_number-below n h = ltb-true n (2 ^ 32) h

-- a number of a row is read from its text at the end of a line
Piece-last_number : (n : ℕ) → is_number n ≡ true → Piece number_at past_number (decimal n) n []
Piece-last_number n h =
    let e = sym (append-nil (decimal n)) in
    let read = Piece-number n [] refl (is_number-below n h) in
    (ap (λ t. number_at (Some t)) e ∙ read.0, ap (λ t. past_number (Some t)) e ∙ read.1)

-- the row of a start of judging is read
IsRead-start : (n : ℕ) → is_number n ≡ true → IsRead (Start n)
unfolding row_in row_text
IsRead-start n h = let p = Piece-last_number n h in rw (p.0, p.1) refl

-- the row of a reset is read
IsRead-reset : (n : ℕ) → is_number n ≡ true → IsRead (Reset n)
unfolding row_in row_text
IsRead-reset n h = let p = Piece-last_number n h in rw (p.0, p.1) refl

-- the row of a transfer without an answer, by its pieces: each piece of a row is read from what is left after the piece
-- before
row_in-pending : {start : ℕ} (l : List ℕ) (d : Direction) → Piece number_at past_number l start (codes " " ++
    (direction_text d
    ++ codes " pending"))
    → row_in (codes "transfer " ++ l) ≡ Some (PendingTransfer start d)
unfolding row_in transfer_at past_transfer
row_in-pending l Read n = rw (n.0, n.1) refl
row_in-pending l Write n = rw (n.0, n.1) refl

-- rows that have a start and an end; l is what follows the first word
module _ {start : ℕ} {end : Option ℕ} (l : List ℕ) where
  -- the row of a tenure that is open where judging starts, by its pieces
  row_in-open_tenure : (t : List ℕ) → Piece number_at past_number l start (codes " open end " ++ t)
      → Piece end_instant_at past_end_instant t end [] → row_in (codes "tenure " ++ l) ≡ Some (OpenTenure start end)
  unfolding row_in tenure_at past_tenure
  row_in-open_tenure t n e = rw (n.0, n.1, e.0, e.1) refl

  -- a text with the pieces of the row of a tenure is read as that row
  row_in-tenure : {level slot : ℕ} (t u v : List ℕ) → Piece number_at past_number l start (codes " level " ++ t)
      → Piece small_at past_small t level (codes " slot " ++ u) → Piece small_at past_small u slot (codes " end " ++ v)
      → Piece end_instant_at past_end_instant v end []
      → row_in (codes "tenure " ++ l) ≡ Some (Tenure start level slot end)
  unfolding row_in tenure_at past_tenure
  row_in-tenure t u v n m s e = rw (n.0, n.1, m.0, m.1, s.0, s.1, e.0, e.1) refl

  -- a text with the pieces of the row of an interrupt acknowledge cycle is read as that row
  row_in-interrupt : {level : ℕ} (t u : List ℕ) → Piece number_at past_number l start (codes " I " ++ t)
      → Piece small_at past_small t level (codes " end " ++ u) → Piece end_instant_at past_end_instant u end []
      → row_in (codes "cycle " ++ l) ≡ Some (InterruptCycle start level end)
  unfolding row_in cycle_at past_cycle
  row_in-interrupt t u n m e = rw (n.0, n.1, m.0, m.1, e.0, e.1) refl

  -- a text with the pieces of the row of a cycle of the class F is read as that row
  row_in-free : {modifier : ℕ} (t u : List ℕ) → Piece number_at past_number l start (codes " F " ++ t)
      → Piece modifier_at past_modifier t modifier (codes " end " ++ u) → Piece end_instant_at past_end_instant u end []
      → row_in (codes "cycle " ++ l) ≡ Some (FreeCycle start modifier end)
  unfolding row_in cycle_at past_cycle
  row_in-free t u n m e = rw (n.0, n.1, m.0, m.1, e.0, e.1) refl

  -- a text with the pieces of the row of a cycle with an address is read as that row
  row_in-addressed : {modifier address : ℕ} (c : Class) (t u v : List ℕ) → has_class modifier c ≡ true
      → Piece number_at past_number l start (codes " " ++ (class_text c ++ (codes " " ++ t)))
      → Piece modifier_at past_modifier t modifier (codes " " ++ u)
      → Piece (λ left. hexadecimal_at left (address_digits modifier)) (λ left. past_hexadecimal left
      (address_digits modifier)) u
      address (codes " end " ++ v) → Piece end_instant_at past_end_instant v end []
      → row_in (codes "cycle " ++ l) ≡ Some (AddressedCycle start c modifier address end)
  unfolding row_in cycle_at past_cycle
  row_in-addressed class.S t u v h n m a e = rw (n.0, n.1, m.0, m.1, a.0, a.1, e.0, e.1) refl
  row_in-addressed class.K t u v h n m a e = rw (n.0, n.1, m.0, m.1, a.0, a.1, e.0, e.1) refl
  row_in-addressed class.I t u v h n m a e = absurd (cc)
  row_in-addressed class.F t u v h n m a e = absurd (cc)

  -- a text with the pieces of the row of a transfer with an answer is read as that row
  row_in-transfer : {d : Direction} {line : AnswerLine} {cycle answer : ℕ} {lanes : Option Lanes} (t u v w x y : List ℕ)
      → Piece number_at past_number l start (codes " of " ++ t) → Piece number_at past_number t cycle u
      → Piece direction_at past_direction u d v → Piece answer_at past_answer v line w
      → Piece number_at past_number w answer (codes " close " ++ x) → Piece end_instant_at past_end_instant x end y
      → Piece data_at past_data y lanes []
      → row_in (codes "transfer " ++ l) ≡ Some (Transfer d line start cycle answer end lanes)
  unfolding row_in transfer_at past_transfer
  row_in-transfer t u v w x y n m d a r e f =
      rw (n.0, n.1, m.0, m.1, d.0, d.1, a.0, a.1, r.0, r.1, e.0, e.1, f.0, f.1) refl

-- the row of a tenure that is open where judging starts is read
IsRead-open_tenure : (start : ℕ) (end : Option ℕ) → is_number start ≡ true → is_end_instant end ≡ true
    → IsRead (OpenTenure start end)
unfolding row_text
IsRead-open_tenure start end h e =
    let t = end_instant_text end in
    let l = decimal start ++ (codes " open end " ++ t) in
    ap row_in (simp append_assoc)
    ∙ row_in-open_tenure l t (Piece-number start (codes " open end " ++ t) refl (is_number-below start h))
    (Piece-last_end_instant end e)

-- the row of a tenure is read
IsRead-tenure : (start level slot : ℕ) (end : Option ℕ) → is_number start ≡ true → level < 4 → slot ≤ 21
    → is_end_instant end ≡ true → IsRead (Tenure start level slot end)
unfolding row_text
IsRead-tenure start level slot end h less most e =
    let v = end_instant_text end in
    let u = decimal slot ++ (codes " end " ++ v) in
    let t = decimal level ++ (codes " slot " ++ u) in
    let l = decimal start ++ (codes " level " ++ t) in
    ap row_in (simp append_assoc)
    ∙ row_in-tenure l t u v (Piece-number start (codes " level " ++ t) refl (is_number-below start h))
    (Piece-small level (codes " slot " ++ u) refl (omega arith))
    (Piece-small slot (codes " end " ++ v) refl (omega arith))
    (Piece-last_end_instant end e)

-- the row of an interrupt acknowledge cycle is read
IsRead-interrupt : (start level : ℕ) (end : Option ℕ) → is_number start ≡ true → level < 8 → is_end_instant end ≡ true
    → IsRead (InterruptCycle start level end)
unfolding row_text
IsRead-interrupt start level end h less e =
    let u = end_instant_text end in
    let t = decimal level ++ (codes " end " ++ u) in
    let l = decimal start ++ (codes " I " ++ t) in
    ap row_in (simp append_assoc)
    ∙ row_in-interrupt l t u (Piece-number start (codes " I " ++ t) refl (is_number-below start h))
    (Piece-small level (codes " end " ++ u) refl (omega arith)) (Piece-last_end_instant end e)

-- the row of a cycle of the class F is read
IsRead-free : (start modifier : ℕ) (end : Option ℕ) → is_number start ≡ true → modifier < 64 → is_end_instant end ≡ true
    → IsRead (FreeCycle start modifier end)
unfolding row_text
IsRead-free start modifier end h less e =
    let u = end_instant_text end in
    let t = hexadecimal 2 modifier ++ (codes " end " ++ u) in
    let l = decimal start ++ (codes " F " ++ t) in
    ap row_in (simp append_assoc)
    ∙ row_in-free l t u (Piece-number start (codes " F " ++ t) refl (is_number-below start h))
    (Piece-modifier modifier (codes " end " ++ u) less)
    (Piece-last_end_instant end e)

-- the row of a cycle with an address is read
IsRead-addressed : (start : ℕ) (c : Class) (modifier address : ℕ) (end : Option ℕ) → is_number start ≡ true
    → has_class modifier c ≡ true → HasDigits modifier address → is_end_instant end ≡ true
    → IsRead (AddressedCycle start c modifier address end)
unfolding row_text
IsRead-addressed start c modifier address end h is a e =
    let v = end_instant_text end in
    let u = hexadecimal (address_digits modifier) address ++ (codes " end " ++ v) in
    let t = hexadecimal 2 modifier ++ (codes " " ++ u) in
    let s = codes " " ++ (class_text c ++ (codes " " ++ t)) in
    let l = decimal start ++ s in
    ap row_in (simp append_assoc)
    ∙ row_in-addressed l c t u v is (Piece-number start s refl (is_number-below start h))
    (Piece-modifier modifier (codes " "
    ++ u) a.modifier_below)
    (Piece-address (address_digits modifier) address (codes " end " ++ v) a.address_below a.by_32_bits)
    (Piece-last_end_instant end e)

-- the row of a transfer without an answer is read
IsRead-pending : (start : ℕ) (d : Direction) → is_number start ≡ true → IsRead (PendingTransfer start d)
unfolding row_text
IsRead-pending start d h =
    let t = codes " " ++ (direction_text d ++ codes " pending") in
    let l = decimal start ++ t in
    ap row_in (simp append_assoc) ∙ row_in-pending l d (Piece-number start t refl (is_number-below start h))

-- the text of data doesn't begin with a digit
is_end-data_text : (lanes : Option Lanes) → is_end (data_text lanes) ≡ true
is_end-data_text None = refl
is_end-data_text (Some a) = refl

-- the row of a transfer with an answer is read
IsRead-transfer : (version : Version) (d : Direction) (line : AnswerLine) (start cycle answer : ℕ) (close : Option ℕ)
    (lanes : Option Lanes) → is_number start ≡ true → is_number cycle ≡ true → is_number answer ≡ true
    → is_end_instant close ≡ true → has_data version d lanes ≡ true
    → IsRead (Transfer d line start cycle answer close lanes)
unfolding row_text
IsRead-transfer version d line start cycle answer close lanes h c a e has =
    let y = data_text lanes in
    let x = end_instant_text close ++ y in
    let w = decimal answer ++ (codes " close " ++ x) in
    let v = codes " " ++ (answer_text line ++ (codes " " ++ w)) in
    let u = codes " " ++ (direction_text d ++ v) in
    let t = decimal cycle ++ u in
    let l = decimal start ++ (codes " of " ++ t) in
    ap row_in (simp append_assoc)
    ∙ row_in-transfer l t u v w x y (Piece-number start (codes " of " ++ t) refl (is_number-below start h))
    (Piece-number cycle u refl (is_number-below cycle c)) (Piece-direction d v) (Piece-answer_line line w)
    (Piece-number answer (codes " close " ++ x) refl (is_number-below answer a))
    (Piece-end_instant y (is_end-data_text lanes) close e)
    (Piece-last_data version d lanes has)

-- ---- the row of a verdict

-- the name of a rule has 2 bytes
length-rule_name : (r : Rule) → length (rule_name r) ≡ 2
length-rule_name r = eqb-true (length (rule_name r)) 2 (every-rule (λ r. length (rule_name r) == 2) refl r)

-- a text that begins with 2 bytes has at least 2
length-front_and_back : (front back : List ℕ) → length front ≡ 2 → nat_le 2 (length (front ++ back)) ≡ true
length-front_and_back front back h =
    let size : 2 ≤ length (front ++ back) = omega (arith, h, length-append front back) in
    grind (arith, nat_tests)

-- a break of the rule r, as a verdict of its kind
module _ (kind : Rule → ℕ → ℕ → ListedVerdict) (r : Rule) (instant line : ℕ) where
  -- a break is read from its text: its rule, its instant and its line
  break_in-text : instant < 2 ^ 32 → line < line_count
      → break_in kind
      (Some (rule_name r ++ (codes " " ++ (decimal instant ++ (codes " " ++ line_name line)))))
      ≡ Some (kind r instant line)
  break_in-text below inside =
      let name = line_name line in
      let z = codes " " ++ name in
      let x = codes " " ++ (decimal instant ++ z) in
      let t = rule_name r ++ x in
      let read = Piece-number instant z refl below in
      ap (λ b. if b then break_by kind (rule_named (take 2 t)) (Some (drop 2 t)) else None)
      (length-front_and_back (rule_name r) x (length-rule_name r))
      ∙ ap (λ n. break_by kind (rule_named n) (Some (drop 2 t))) (take_at (rule_name r) x 2 (length-rule_name r))
      ∙ ap (λ l. break_by kind (rule_named (rule_name r)) (Some l)) (drop_at (rule_name r) x 2 (length-rule_name r))
      ∙ ap (λ o. break_by kind o (Some x)) (rule_named-is r (rule_name r) refl)
      ∙ ap (λ n. named_break kind r n (line_in (past (codes " ") (past_number (Some (decimal instant ++ z)))))) read.0
      ∙ ap (λ p. named_break kind r instant (line_in (past (codes " ") p))) read.1
      ∙ ap (λ o. named_break kind r instant o) (line_named-is line name inside refl)

-- a row that begins with the word `verdict` is read as the verdict after it
row_in-verdict : (l : List ℕ) → row_in (codes "verdict " ++ l) ≡ verdict_by (outcome_in l)
unfolding row_in
row_in-verdict l = refl

-- the text of the row of a verdict that a rule is broken has the rule, the instant and the line
row_text-broken : (r : Rule) (instant line : ℕ) → row_text (Verdict (Broken r instant line))
    ≡ codes "verdict " ++ (codes "broken " ++ (rule_name r ++ (codes " " ++ (decimal instant ++ (codes " "
    ++ line_name line)))))
unfolding row_text
row_text-broken r instant line = simp append_assoc

-- the text of the row of a verdict that a recording is unreadable has the rule, the instant and the line
row_text-unreadable : (r : Rule) (instant line : ℕ) → row_text (Verdict (Unreadable r instant line))
    ≡ codes "verdict " ++ (codes "unreadable " ++ (rule_name r ++ (codes " " ++ (decimal instant ++ (codes " "
    ++ line_name line)))))
unfolding row_text
row_text-unreadable r instant line = simp append_assoc

-- a verdict that begins with the word `broken` is read as the break after it
outcome_in-broken : (l : List ℕ) → outcome_in (codes "broken " ++ l) ≡ break_in Broken (Some l)
unfolding outcome_in
outcome_in-broken l = refl

-- a verdict that begins with the word `unreadable` is read as the break after it
outcome_in-unreadable : (l : List ℕ) → outcome_in (codes "unreadable " ++ l) ≡ break_in Unreadable (Some l)
unfolding outcome_in
outcome_in-unreadable l = refl

-- the row of an allowed verdict is read
IsRead-verdict : (outcome : ListedVerdict) → is_allowed_outcome outcome ≡ true → IsRead (Verdict outcome)
unfolding row_in outcome_in row_text
IsRead-verdict Conforming h = refl
IsRead-verdict NeverIdle h = refl
IsRead-verdict (Broken r instant line) h =
    let p = and_parts-three _ (is_number instant) (nat_lt line line_count) h in
    let below = is_number-below instant p.1 in
    let l = rule_name r ++ (codes " " ++ (decimal instant ++ (codes " " ++ line_name line))) in
    ap row_in (row_text-broken r instant line) ∙ row_in-verdict (codes "broken " ++ l)
    ∙ ap verdict_by (outcome_in-broken l ∙ break_in-text Broken r instant line below (ltb-true line line_count p.2))
IsRead-verdict (Unreadable r instant line) h =
    let p = and_parts-three _ (is_number instant) (nat_lt line line_count) h in
    let below = is_number-below instant p.1 in
    let l = rule_name r ++ (codes " " ++ (decimal instant ++ (codes " " ++ line_name line))) in
    ap row_in (row_text-unreadable r instant line) ∙ row_in-verdict (codes "unreadable " ++ l)
    ∙ ap verdict_by (outcome_in-unreadable l ∙ break_in-text Unreadable r instant line below
    (ltb-true line line_count p.2))

-- a row that its form allows is read from its own text
pub row_in-row_text : (version : Version) (row : Row) → is_row version row ≡ true → row_in (row_text row) ≡ Some row
unfolding is_row
row_in-row_text version (Start instant) h = IsRead-start instant h
row_in-row_text version (Reset instant) h =
    IsRead-reset instant (and_parts (includes_resets version) (is_number instant) h).1
row_in-row_text version (OpenTenure start end) h =
    let p = and_parts (is_number start) (is_end_instant end) h in
    IsRead-open_tenure start end p.0 p.1
row_in-row_text version (Tenure start level slot end) h =
    let p = and_parts-five (is_number start) (nat_lt level 4) (nat_le 1 slot) (nat_le slot 21) (is_end_instant end) h in
    IsRead-tenure start level slot end p.0 (ltb-true level 4 p.1) (leb-true slot 21 p.3) p.4
row_in-row_text version (AddressedCycle start c modifier address end) h =
    let p = and_parts-four (is_number start) (has_class modifier c) (is_address modifier address)
    (is_end_instant end) h in
    IsRead-addressed start c modifier address end p.0 p.1 (HasDigits-of_address modifier address p.2)
    p.3
row_in-row_text version (FreeCycle start modifier end) h =
    let p = and_parts-four (is_number start) (nat_lt modifier 64) (highest_address modifier == 0)
    (is_end_instant end) h in
    IsRead-free start modifier end p.0 (ltb-true modifier 64 p.1) p.3
row_in-row_text version (InterruptCycle start level end) h =
    let p = and_parts-three (is_number start) (nat_lt level 8) (is_end_instant end) h in
    IsRead-interrupt start level end p.0 (ltb-true level 8 p.1) p.2
row_in-row_text version (Transfer direction line start cycle answer close lanes) h =
    let p = and_parts-five (is_number start) (is_number cycle) (is_number answer) (is_end_instant close)
    (has_data version direction lanes) h in
    IsRead-transfer version direction line start cycle answer close lanes p.0 p.1 p.2 p.3 p.4
row_in-row_text version (PendingTransfer start direction) h = IsRead-pending start direction h
row_in-row_text version (Verdict outcome) h = IsRead-verdict outcome h
