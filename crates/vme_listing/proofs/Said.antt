-- A row that is read from a line has the line as its text.
use Rattle.std.proofs.Common.{◌≡◌, ℕ, Bool, true, false, List, [], ◌∷◌, ◌++◌, drop, length, take, append_assoc}
use Rattle.std.proofs.Common.{refl, sym, ap}
use Rattle.std.proofs.Common.{◌∙◌}
use Rattle.std.specs.Prelude.{Option, None, Some, bytes_eq, codes, decimal, nat_le, nat_lt, if◌then◌else◌}
use Rattle.std.proofs.lemmas.List.{append-nil, take-append-drop}
use Rattle.std.proofs.lemmas.Option.{none-some, same_Some}
use Rattle.vme_trace.specs.Names.{line_name, line_named, rule_named}
use Rattle.vme_trace.specs.Rules.{rule_name}
use Rattle.vme_trace.specs.declared.rule.Rule.{Rule}
use Rattle.vme_trace.specs.declared.class.Class.TheVariants as class
use Rattle.vme_trace.proofs.NameLaws.{line_named-found, rule_named-found, bytes_eq-same}
use Rattle.vme_listing.specs.declared.row.AnswerLine.TheVariants.{Dtack, Berr}
use Rattle.vme_listing.specs.declared.row.Direction.TheVariants.{Read, Write}
use Rattle.vme_listing.specs.declared.row.ListedVerdict.{ListedVerdict}
use Rattle.vme_listing.specs.declared.row.ListedVerdict.TheVariants.{Conforming, NeverIdle, Broken, Unreadable}
use Rattle.vme_listing.specs.declared.row.Row.{Row}
use Rattle.vme_listing.specs.declared.row.Row.TheVariants.{Start, Reset, OpenTenure, Tenure, AddressedCycle}
use Rattle.vme_listing.specs.declared.row.Row.TheVariants.{FreeCycle, InterruptCycle, Transfer, PendingTransfer}
use Rattle.vme_listing.specs.declared.row.Row.TheVariants.{Verdict}
use Rattle.vme_listing.specs.RowText.{answer_text, class_text, data_text, direction_text, end_instant_text}
use Rattle.vme_listing.specs.RowText.{hexadecimal, lanes_text, row_text, verdict_text}
use Rattle.vme_listing.specs.Lines.{Rest, address_left, after_word, answer_at, answer_left, break_by, break_in}
use Rattle.vme_listing.specs.Lines.{class_at, class_left, close_left, cycle_at, cycle_end, data_at, digits_left}
use Rattle.vme_listing.specs.Lines.{direction_at, end_instant_at, end_left, free_end, free_left, hexadecimal_at}
use Rattle.vme_listing.specs.Lines.{hexadecimal_in}
use Rattle.vme_listing.specs.Lines.{interrupt_end, interrupt_left, lanes_at, lanes_in, level_left, line_in, modifier_at}
use Rattle.vme_listing.specs.Lines.{named_break, no_lanes, number_at, number_in, of_left, open_left, outcome_in, past}
use Rattle.vme_listing.specs.Lines.{past_answer, past_class, past_cycle, past_data, past_direction, past_end_instant}
use Rattle.vme_listing.specs.Lines.{past_hexadecimal, past_lanes, past_modifier, past_number, past_small, past_tenure}
use Rattle.vme_listing.specs.Lines.{past_transfer, row_in, slot_left, small_at, starts_with, tenure_at, transfer_at}
use Rattle.vme_listing.specs.Lines.{verdict_by, verdict_in, whole}
use Rattle.vme_listing.proofs.Pieces.{after_word-text, past-text, past_piece-text}

-- each piece of a row: if the line goes on after it, its text is there
module _ (left : Rest) (more : List ℕ) where
  -- if `more` is left after a number, what was left is its text and then `more`
  past_number-text : past_number left ≡ Some more → left ≡ Some (decimal (number_at left) ++ more)
  past_number-text e = past_piece-text number_in decimal 0 left more e

  -- if `more` is left after a number below 256, what was left is its text and then `more`
  past_small-text : past_small left ≡ Some more → left ≡ Some (decimal (small_at left) ++ more)
  past_small-text e = by_test (nat_lt (number_at left) 256) e
    where
      by_test : (b : Bool) → (if b then past_number left else None) ≡ Some more
          → left ≡ Some (decimal (if b then number_at left else 0) ++ more)
      by_test true e = past_number-text e
      by_test false e = absurd (none-some more e)

  -- if `more` is left after the instant of an end, or its absence, what was left is its text and then `more`
  past_end_instant-text : past_end_instant left ≡ Some more
      → left ≡ Some (end_instant_text (end_instant_at left) ++ more)
  past_end_instant-text e = by_test (starts_with (codes "-") left) e
    where
      by_test : (b : Bool) → (if b then past (codes "-") left else past_number left) ≡ Some more
          → left ≡ Some (end_instant_text (if b then None else Some (number_at left)) ++ more)
      by_test true e = past-text (codes "-") left more e
      by_test false e = past_number-text e

  -- if `more` is left after a number in base 16, what was left is its text and then `more`
  past_hexadecimal-text : (digits : ℕ) → past_hexadecimal left digits ≡ Some more
      → left ≡ Some (hexadecimal digits (hexadecimal_at left digits) ++ more)
  past_hexadecimal-text digits e = past_piece-text (hexadecimal_in digits) (hexadecimal digits) 0 left more e

  -- if `more` is left after a modifier code, what was left is its text and then `more`
  past_modifier-text : past_modifier left ≡ Some more → left ≡ Some (hexadecimal 2 (modifier_at left) ++ more)
  past_modifier-text e = by_test (nat_lt (hexadecimal_at left 2) 256) e
    where
      by_test : (b : Bool) → (if b then past_hexadecimal left 2 else None) ≡ Some more
          → left ≡ Some (hexadecimal 2 (if b then hexadecimal_at left 2 else 0) ++ more)
      by_test true e = past_hexadecimal-text 2 e
      by_test false e = absurd (none-some more e)

  -- if `more` is left after the direction of a transfer, after a space, what was left is its text and then `more`
  past_direction-text : past_direction left ≡ Some more → left ≡ Some (codes " " ++ (direction_text (direction_at left)
      ++ more))
  past_direction-text e = by_test (starts_with (codes " read") left) e
    where
      by_test : (b : Bool) → (if b then past (codes " read") left else past (codes " write") left) ≡ Some more
          → left ≡ Some (codes " " ++ (direction_text (if b then Read else Write) ++ more))
      by_test true e = past-text (codes " read") left more e
      by_test false e = past-text (codes " write") left more e

  -- if `more` is left after the line of an answer, between two spaces, what was left is its text and then `more`
  past_answer-text : past_answer left ≡ Some more
      → left ≡ Some (codes " " ++ (answer_text (answer_at left) ++ (codes " " ++ more)))
  past_answer-text e = by_test (starts_with (codes " DTACK ") left) e
    where
      by_test : (b : Bool) → (if b then past (codes " DTACK ") left else past (codes " BERR ") left) ≡ Some more
          → left ≡ Some (codes " " ++ (answer_text (if b then Dtack else Berr) ++ (codes " " ++ more)))
      by_test true e = past-text (codes " DTACK ") left more e
      by_test false e = past-text (codes " BERR ") left more e

  -- if `more` is left after the class of a cycle, between two spaces, what was left is its text and then `more`
  past_class-text : past_class left ≡ Some more
      → left ≡ Some (codes " " ++ (class_text (class_at left) ++ (codes " " ++ more)))
  past_class-text e = by_test (starts_with (codes " S ") left) e
    where
      by_test : (b : Bool) → (if b then past (codes " S ") left else past (codes " K ") left) ≡ Some more
          → left ≡ Some (codes " " ++ (class_text (if b then class.S else class.K) ++ (codes " " ++ more)))
      by_test true e = past-text (codes " S ") left more e
      by_test false e = past-text (codes " K ") left more e

  -- if `more` is left after the data of a transfer, what was left is its text and then `more`
  past_data-text : past_data left ≡ Some more → left ≡ Some (data_text (data_at left) ++ more)
  past_data-text e = by_test (starts_with (codes " data ") left) e
    where
      by_test : (b : Bool) → (if b then past_lanes (past (codes " data ") left) else left) ≡ Some more
          → left ≡ Some (data_text (if b then Some (lanes_at (past (codes " data ") left)) else None) ++ more)
      by_test true e = past-text (codes " data ") left _
          (past_piece-text lanes_in lanes_text no_lanes (past (codes " data ") left) more e)
      by_test false e = e

-- what follows the first word of a line is unique
line-unique : (left : Rest) (line other : List ℕ) → left ≡ Some line → left ≡ Some other → line ≡ other
line-unique left line other h e = same_Some line other (sym h ∙ e)

-- `line` is what follows the first word of a line, and is read whole
module _ (left : Rest) (line : List ℕ) (h : left ≡ Some line) where
  -- after the word `tenure` it is the rest of the text of the tenure that is read
  row_text-tenure : past_tenure left ≡ Some [] → codes "tenure " ++ line ≡ row_text (tenure_at left)
  unfolding past_tenure tenure_at row_text
  row_text-tenure e = by_test (starts_with (codes " open end ") (past_number left)) e
    where
      by_test : (b : Bool)
          → (if b then past_end_instant (open_left left) else past_end_instant (end_left left)) ≡ Some []
          → codes "tenure " ++ line ≡ row_text
          (if b then OpenTenure (number_at left) (end_instant_at (open_left left))
          else Tenure (number_at left) (small_at (level_left left)) (small_at (slot_left left)) (end_instant_at
          (end_left left)))
      by_test true e =
          let e1 = past-text (codes " open end ") (past_number left) _ (past_end_instant-text (open_left left) [] e) in
          rw (line-unique left line _ h (past_number-text left _ e1)) (simp (append_assoc, append-nil))
      by_test false e =
          let e1 = past-text (codes " end ") (past_small (slot_left left)) _
          (past_end_instant-text (end_left left) [] e) in
          let e2 = past-text (codes " slot ") (past_small (level_left left)) _
          (past_small-text (slot_left left) _ e1) in
          let e3 = past-text (codes " level ") (past_number left) _ (past_small-text (level_left left) _ e2) in
          rw (line-unique left line _ h (past_number-text left _ e3)) (simp (append_assoc, append-nil))

  -- after the word `cycle` it is the rest of the text of the interrupt acknowledge cycle that is read
  row_text-interrupt : past_end_instant (interrupt_end left) ≡ Some [] → codes "cycle " ++ line
      ≡ row_text (InterruptCycle (number_at left) (small_at (interrupt_left left))
      (end_instant_at (interrupt_end left)))
  unfolding row_text
  row_text-interrupt e =
      let e1 = past-text (codes " end ") (past_small (interrupt_left left)) _
      (past_end_instant-text (interrupt_end left) [] e) in
      let e2 = past-text (codes " I ") (past_number left) _ (past_small-text (interrupt_left left) _ e1) in
      rw (line-unique left line _ h (past_number-text left _ e2)) (simp (append_assoc, append-nil))

  -- after the word `cycle` it is the rest of the text of the cycle of the class F that is read
  row_text-free : past_end_instant (free_end left) ≡ Some [] → codes "cycle " ++ line
      ≡ row_text (FreeCycle (number_at left) (modifier_at (free_left left)) (end_instant_at (free_end left)))
  unfolding row_text
  row_text-free e =
      let e1 = past-text (codes " end ") (past_modifier (free_left left)) _
      (past_end_instant-text (free_end left) [] e) in
      let e2 = past-text (codes " F ") (past_number left) _ (past_modifier-text (free_left left) _ e1) in
      rw (line-unique left line _ h (past_number-text left _ e2)) (simp (append_assoc, append-nil))

  -- after the word `cycle` it is the rest of the text of the cycle with an address that is read
  row_text-addressed : past_end_instant (cycle_end left) ≡ Some [] → codes "cycle " ++ line
      ≡ row_text (AddressedCycle (number_at left) (class_at (past_number left)) (modifier_at (class_left left))
      (hexadecimal_at (address_left left) (digits_left left)) (end_instant_at (cycle_end left)))
  unfolding row_text
  row_text-addressed e =
      let e1 = past-text (codes " end ") (past_hexadecimal (address_left left) (digits_left left)) _
      (past_end_instant-text (cycle_end left) [] e) in
      let e2 = past-text (codes " ") (past_modifier (class_left left)) _
      (past_hexadecimal-text (address_left left) _ (digits_left left) e1) in
      let e3 = past_class-text (past_number left) _ (past_modifier-text (class_left left) _ e2) in
      rw (line-unique left line _ h (past_number-text left _ e3)) (simp (append_assoc, append-nil))

  -- after the word `cycle` it is the rest of the text of the cycle that is read
  row_text-cycle : past_cycle left ≡ Some [] → codes "cycle " ++ line ≡ row_text (cycle_at left)
  unfolding past_cycle cycle_at
  row_text-cycle e = by_test (starts_with (codes " I ") (past_number left))
      (starts_with (codes " F ") (past_number left)) e
    where
      by_test : (b c : Bool)
          → (if b then past_end_instant (interrupt_end left) else if c then past_end_instant (free_end left)
          else past_end_instant (cycle_end left)) ≡ Some []
          → codes "cycle " ++ line ≡ row_text
          (if b then InterruptCycle (number_at left) (small_at (interrupt_left left))
          (end_instant_at (interrupt_end left))
          else if c then FreeCycle (number_at left) (modifier_at (free_left left)) (end_instant_at (free_end left))
          else AddressedCycle (number_at left) (class_at (past_number left)) (modifier_at (class_left left))
          (hexadecimal_at (address_left left) (digits_left left)) (end_instant_at (cycle_end left)))
      by_test true c e = row_text-interrupt e
      by_test false true e = row_text-free e
      by_test false false e = row_text-addressed e

  -- after the word `transfer` it is the rest of the text of the transfer that is read
  row_text-transfer : past_transfer left ≡ Some [] → codes "transfer " ++ line ≡ row_text (transfer_at left)
  unfolding past_transfer transfer_at row_text
  row_text-transfer e = by_test (starts_with (codes " of ") (past_number left)) e
    where
      by_test : (b : Bool) → (if b then past_data (past_end_instant (close_left left))
          else past (codes " pending") (past_direction (past_number left))) ≡ Some []
          → codes "transfer " ++ line ≡ row_text
          (if b then Transfer (direction_at (past_number (of_left left))) (answer_at (answer_left left))
          (number_at left)
          (number_at (of_left left)) (number_at (past_answer (answer_left left))) (end_instant_at (close_left left))
          (data_at (past_end_instant (close_left left)))
          else PendingTransfer (number_at left) (direction_at (past_number left)))
      by_test true e =
          let e1 = past_end_instant-text (close_left left) _
          (past_data-text (past_end_instant (close_left left)) [] e) in
          let e2 = past-text (codes " close ") (past_number (past_answer (answer_left left))) _ e1 in
          let e3 = past_answer-text (answer_left left) _ (past_number-text (past_answer (answer_left left)) _ e2) in
          let e4 = past_number-text (of_left left) _ (past_direction-text (past_number (of_left left)) _ e3) in
          let e5 = past-text (codes " of ") (past_number left) _ e4 in
          rw (line-unique left line _ h (past_number-text left _ e5)) (simp (append_assoc, append-nil))
      by_test false e =
          let e1 = past_direction-text (past_number left) _ (past-text (codes " pending") _ [] e) in
          rw (line-unique left line _ h (past_number-text left _ e1)) (simp (append_assoc, append-nil))

-- verdicts of one kind, broken or unreadable, whose text is the word of the kind and then the break
module _ (kind : Rule → ℕ → ℕ → ListedVerdict) (word : List ℕ)
    (text : (r : Rule) (n l : ℕ) → verdict_text (kind r n l)
    ≡ codes "verdict " ++ (word ++ (rule_name r ++ (codes " " ++ (decimal n ++ (codes " " ++ line_name l)))))) where
  -- the verdict with a break on the line of a name has the text of the rule, the instant and that name
  verdict_text-named : (r : Rule) (n : ℕ) (o : Option ℕ) (name : List ℕ) (verdict : ListedVerdict) → o ≡ line_named name
      → named_break kind r n o ≡ Some verdict → verdict_text verdict
      ≡ codes "verdict " ++ (word ++ (rule_name r ++ (codes " " ++ (decimal n ++ (codes " " ++ name)))))
  verdict_text-named r n None name verdict o e = absurd (none-some verdict e)
  verdict_text-named r n (Some l) name verdict o e =
      ap verdict_text (sym (same_Some (kind r n l) verdict e)) ∙ text r n l
      ∙ ap (λ a. codes "verdict " ++ (word ++ (rule_name r ++ (codes " " ++ (decimal n ++ (codes " " ++ a))))))
      (line_named-found l name (sym o)).1

  -- if a verdict is read from what follows the name of a rule, that is the rest of its text
  verdict_text-line : (r : Rule) (left last : Rest) (verdict : ListedVerdict)
      → past (codes " ") (past_number (past (codes " ") left)) ≡ last
      → named_break kind r (number_at (past (codes " ") left)) (line_in last) ≡ Some verdict
      → (name : List ℕ) × (left ≡ Some name)
      × (verdict_text verdict ≡ codes "verdict " ++ (word ++ (rule_name r ++ name)))
  verdict_text-line r left None verdict s e = absurd (none-some verdict e)
  verdict_text-line r left (Some name) verdict s e =
      let first = past (codes " ") left in
      let e1 = past-text (codes " ") (past_number first) name s in
      let e2 = past-text (codes " ") left _ (past_number-text first _ e1) in
      (_, e2, verdict_text-named r (number_at first) (line_named name) name verdict refl e)

  -- if a verdict is read from a line by the rule that its first two bytes name, the line is the rest of its text
  verdict_text-rule : (o : Option Rule) (line : List ℕ) (verdict : ListedVerdict) → o ≡ rule_named (take 2 line)
      → break_by kind o (Some (drop 2 line)) ≡ Some verdict
      → verdict_text verdict ≡ codes "verdict " ++ (word ++ line)
  verdict_text-rule None line verdict o e = absurd (none-some verdict e)
  verdict_text-rule (Some r) line verdict o e =
      let (name, left, line_text) = verdict_text-line r (Some (drop 2 line)) _ verdict refl e in
      line_text ∙ ap (λ a. codes "verdict " ++ (word ++ a))
      (ap (λ a. a ++ name) (rule_named-found r (take 2 line) (sym o))
      ∙ ap (λ a. take 2 line ++ a) (sym (same_Some (drop 2 line) name left)) ∙ take-append-drop 2 line)

  -- if a verdict is read from what follows the word of its kind, that is the rest of its text
  verdict_text-break : (left : Rest) (verdict : ListedVerdict) → break_in kind left ≡ Some verdict
      → (line : List ℕ) × (left ≡ Some line) × (verdict_text verdict ≡ codes "verdict " ++ (word ++ line))
  verdict_text-break None verdict e = absurd (none-some verdict e)
  verdict_text-break (Some line) verdict e = by_length (nat_le 2 (length line)) e
    where
      by_length : (b : Bool)
          → (if b then break_by kind (rule_named (take 2 line)) (Some (drop 2 line)) else None) ≡ Some verdict
          → (l : List ℕ) × (Some line ≡ Some l) × (verdict_text verdict ≡ codes "verdict " ++ (word ++ l))
      by_length true e = (line, refl, verdict_text-rule (rule_named (take 2 line)) line verdict refl e)
      by_length false e = absurd (none-some verdict e)

-- the text of a verdict that a rule is broken has the rule, the instant and the line
verdict_text-broken : (r : Rule) (n l : ℕ) → verdict_text (Broken r n l)
    ≡ codes "verdict " ++ (codes "broken " ++ (rule_name r ++ (codes " " ++ (decimal n ++ (codes " " ++ line_name l)))))
verdict_text-broken r n l = simp append_assoc

-- the text of a verdict that the recording is unreadable has the rule, the instant and the line
verdict_text-unreadable : (r : Rule) (n l : ℕ) → verdict_text (Unreadable r n l)
    ≡ codes "verdict " ++ (codes "unreadable " ++ (rule_name r ++ (codes " " ++ (decimal n ++ (codes " "
    ++ line_name l)))))
verdict_text-unreadable r n l = simp append_assoc

-- the verdict that is read after the word `verdict` has that line as its text
verdict_text-outcome : (line : List ℕ) (verdict : ListedVerdict) → outcome_in line ≡ Some verdict → verdict_text verdict
    ≡ codes "verdict " ++ line
unfolding outcome_in
verdict_text-outcome line verdict e = by_tests (bytes_eq line (codes "conforming")) (bytes_eq line (codes "never-idle"))
    (starts_with (codes "broken ") (Some line)) refl refl e
  where
    -- a break that is read after its word has the line as its text
    verdict_text-after_word : (kind : Rule → ℕ → ℕ → ListedVerdict) (word : List ℕ)
        (b : (l : List ℕ) × (after_word word line ≡ Some l) × (verdict_text verdict ≡ codes "verdict " ++ (word ++ l)))
        → verdict_text verdict ≡ codes "verdict " ++ line
    verdict_text-after_word kind word b =
        b.2 ∙ ap (λ l. codes "verdict " ++ l) (sym (after_word-text word line b.0 b.1))

    by_tests : (a b c : Bool) → bytes_eq line (codes "conforming") ≡ a → bytes_eq line (codes "never-idle") ≡ b
        → (if a then Some Conforming else if b then Some NeverIdle
        else if c then break_in Broken (after_word (codes "broken ") line)
        else break_in Unreadable (after_word (codes "unreadable ") line)) ≡ Some verdict
        → verdict_text verdict ≡ codes "verdict " ++ line
    by_tests true b c f g e =
        ap verdict_text (sym (same_Some Conforming verdict e))
        ∙ ap (λ l. codes "verdict " ++ l) (sym (bytes_eq-same _ _ f))
    by_tests false true c f g e =
        ap verdict_text (sym (same_Some NeverIdle verdict e))
        ∙ ap (λ l. codes "verdict " ++ l) (sym (bytes_eq-same _ _ g))
    by_tests false false true f g e =
        verdict_text-after_word Broken (codes "broken ")
        (verdict_text-break Broken (codes "broken ") verdict_text-broken _ verdict e)
    by_tests false false false f g e =
        verdict_text-after_word Unreadable (codes "unreadable ")
        (verdict_text-break Unreadable (codes "unreadable ") verdict_text-unreadable _ verdict e)

-- a row is read only where nothing is left of the line
whole-at_end : (row : Row) (left : Rest) (result : Row) → whole row left ≡ Some result → (left ≡ Some [])
    × (row ≡ result)
whole-at_end row None result e = absurd (none-some result e)
whole-at_end row (Some []) result e = (refl, same_Some row result e)
whole-at_end row (Some (byte ∷ line)) result e = absurd (none-some result e)

-- a row that is read after a first word has the whole line as its text
row_text-by_first_word : (word line : List ℕ) (at : Rest → Row) (past : Rest → Rest) (row : Row)
    → ((left : Rest) (l : List ℕ) → left ≡ Some l → past left ≡ Some [] → word ++ l ≡ row_text (at left))
    → starts_with word (Some line) ≡ true → whole (at (after_word word line)) (past (after_word word line)) ≡ Some row
    → row_text row ≡ line
row_text-by_first_word word line at past row row_says b e = by_left (after_word word line) refl b e
  where
    by_left : (o : Rest) → after_word word line ≡ o → starts_with word (Some line) ≡ true
        → whole (at o) (past o) ≡ Some row → row_text row ≡ line
    by_left None s b e = absurd (cc)
    by_left (Some l) s b e =
        let w = whole-at_end (at (Some l)) (past (Some l)) row e in
        ap row_text (sym w.1) ∙ (sym (row_says (Some l) l refl w.0) ∙ sym (after_word-text word line l s))

-- the row that is read after the word `start` has the line as its text
row_text-start : (left : Rest) (line : List ℕ) → left ≡ Some line → past_number left ≡ Some [] → codes "start " ++ line
    ≡ row_text (Start (number_at left))
unfolding row_text
row_text-start left line h e = rw (line-unique left line _ h (past_number-text left [] e)) (simp append-nil)

-- the row that is read after the word `reset` has the line as its text
row_text-reset : (left : Rest) (line : List ℕ) → left ≡ Some line → past_number left ≡ Some [] → codes "reset " ++ line
    ≡ row_text (Reset (number_at left))
unfolding row_text
row_text-reset left line h e = rw (line-unique left line _ h (past_number-text left [] e)) (simp append-nil)

-- the row that is read after the word `verdict` has the line as its text
row_text-verdict : (line : List ℕ) (row : Row) → verdict_in (after_word (codes "verdict ") line) ≡ Some row
    → row_text row
    ≡ line
unfolding row_text
row_text-verdict line row e = by_left (after_word (codes "verdict ") line) refl e
  where
    by_outcome : (l : List ℕ) (o : Option ListedVerdict) → line ≡ codes "verdict " ++ l → outcome_in l ≡ o
        → verdict_by o ≡ Some row → row_text row ≡ line
    by_outcome l None s f e = absurd (none-some row e)
    by_outcome l (Some verdict) s f e =
        ap row_text (sym (same_Some (Verdict verdict) row e)) ∙ verdict_text-outcome l verdict f ∙ sym s

    by_left : (o : Rest) → after_word (codes "verdict ") line ≡ o → verdict_in o ≡ Some row → row_text row ≡ line
    by_left None s e = absurd (none-some row e)
    by_left (Some l) s e = by_outcome l (outcome_in l) (after_word-text (codes "verdict ") line l s) refl e

-- a row that is read from a line has the line as its text
pub row_text-row_in : (line : List ℕ) (row : Row) → row_in line ≡ Some row → row_text row ≡ line
unfolding row_in
row_text-row_in line row e =
    by_tests (starts_with (codes "transfer ") (Some line)) (starts_with (codes "cycle ") (Some line))
    (starts_with (codes "tenure ") (Some line)) (starts_with (codes "start ") (Some line))
    (starts_with (codes "reset ") (Some line)) refl refl refl refl refl e
  where
    by_tests : (a b c d f : Bool) → starts_with (codes "transfer ") (Some line) ≡ a
        → starts_with (codes "cycle ") (Some line) ≡ b → starts_with (codes "tenure ") (Some line) ≡ c
        → starts_with (codes "start ") (Some line) ≡ d → starts_with (codes "reset ") (Some line) ≡ f
        → (if a
        then whole (transfer_at (after_word (codes "transfer ") line))
        (past_transfer (after_word (codes "transfer ") line))
        else if b
        then whole (cycle_at (after_word (codes "cycle ") line)) (past_cycle (after_word (codes "cycle ") line))
        else if c
        then whole (tenure_at (after_word (codes "tenure ") line)) (past_tenure (after_word (codes "tenure ") line))
        else if d
        then whole (Start (number_at (after_word (codes "start ") line)))
        (past_number (after_word (codes "start ") line))
        else if f
        then whole (Reset (number_at (after_word (codes "reset ") line)))
        (past_number (after_word (codes "reset ") line))
        else verdict_in (after_word (codes "verdict ") line)) ≡ Some row
        → row_text row ≡ line
    by_tests true b c d f ta tb tc td tf e =
        row_text-by_first_word (codes "transfer ") line transfer_at past_transfer row row_text-transfer ta e
    by_tests false true c d f ta tb tc td tf e =
        row_text-by_first_word (codes "cycle ") line cycle_at past_cycle row row_text-cycle tb e
    by_tests false false true d f ta tb tc td tf e =
        row_text-by_first_word (codes "tenure ") line tenure_at past_tenure row row_text-tenure tc e
    by_tests false false false true f ta tb tc td tf e =
        row_text-by_first_word (codes "start ") line (λ l. Start (number_at l)) past_number row row_text-start td e
    by_tests false false false false true ta tb tc td tf e =
        row_text-by_first_word (codes "reset ") line (λ l. Reset (number_at l)) past_number row row_text-reset tf e
    by_tests false false false false false ta tb tc td tf e = row_text-verdict line row e
