-- The texts that the variables show are words: none of their bytes is a space.
use Rattle.std.proofs.Common.{◌≡◌, ℕ, zero, suc, ◌+◌, ◌-◌, ◌≤◌, ◌/◌, ◌%◌, Bool, true, false, cond, eqb, List, [], ◌∷◌}
use Rattle.std.proofs.Common.{◌++◌}
use Rattle.std.proofs.Common.{Option, Some, None, refl, sym, ap, ◌∙◌, arith}
use Rattle.std.specs.Prelude.{not, nat_lt, flat_map, filter, codes, decimal}
use Rattle.std.specs.List.{list_all}
use Rattle.std.specs.Fmt.{digit_glyph, digits, digits_onto}
use Rattle.std.proofs.lemmas.Bool.{and_from, and_parts, eq-eqb}
use Rattle.std.proofs.lemmas.List.Folds.{list_all-append}
use Rattle.vcd_read.specs.Tokens.{is_space}
use Rattle.vcd_read.proofs.TokenLemmas.{is_space_above_32}
use Rattle.vme_trace.specs.Cycle.{highest_address}
use Rattle.vme_trace.specs.LineNumbers.{AS, DS0, DS1, DTACK, BERR, IACK, AM, LWORD, WRITE, A, BBSY, BR, grant, iack, D}
use Rattle.vme_trace.specs.LineNumbers.{SYSRESET, grant_level, grant_place}
use Rattle.vme_trace.specs.Names.{line_name, two_digits}
use Rattle.vme_trace.specs.Rules.{rule_name}
use Rattle.vme_trace.specs.declared.class.Class.{Class}
use Rattle.vme_trace.specs.declared.class.Class.TheVariants as class
use Rattle.vme_trace.specs.declared.data.Lanes.{Lanes}
use Rattle.vme_trace.specs.declared.rule.Rule.{Rule}
use Rattle.vme_trace.proofs.EveryRule.{every-rule}
use Rattle.vme_listing.specs.LaneDigits.{digit_in, flag_in, is_moved_in}
use Rattle.vme_listing.specs.RowText.{address_digits, digit_text, digit_text_in, hexadecimal, lanes_text}
use Rattle.vme_listing.specs.declared.row.AnswerLine.{AnswerLine}
use Rattle.vme_listing.specs.declared.row.AnswerLine.TheVariants.{Dtack, Berr}
use Rattle.vme_listing.specs.declared.row.Direction.{Direction}
use Rattle.vme_listing.specs.declared.row.Direction.TheVariants.{Read, Write}
use Rattle.vme_listing.specs.declared.row.ListedVerdict.{ListedVerdict}
use Rattle.vme_listing.specs.declared.row.ListedVerdict.TheVariants.{Conforming, NeverIdle, Broken, Unreadable}
use Rattle.vme_listing.specs.declared.row.Row.{Row}
use Rattle.vme_listing.specs.declared.row.Row.TheVariants.{Start, Reset, OpenTenure, Tenure, AddressedCycle}
use Rattle.vme_listing.specs.declared.row.Row.TheVariants.{FreeCycle, InterruptCycle, Transfer, PendingTransfer}
use Rattle.vme_listing.specs.declared.row.Row.TheVariants.{Verdict}
use Rattle.vme_annotation.specs.Shown.{ShownChange, address_text, all_changes, answer_text, block_text, break_text}
use Rattle.vme_annotation.specs.Shown.{changes_at, changes_with, data_text, direction_text, opening_changes}
use Rattle.vme_annotation.specs.Shown.{row_changes, shown_text, shows_until, space_text, tenure_text, verdict_text}
use Rattle.vme_annotation.specs.declared.shown_variable.ShownVariable.{ShownVariable}
use Rattle.vme_annotation.specs.declared.shown_variable.ShownVariable.TheVariants as shown

-- no byte of the text is a space
abbrev pub is_word : List ℕ → Bool
is_word text = list_all (λ b. not (is_space b)) text

-- two words, one after the other, are a word
pub is_word-append : (a b : List ℕ) → is_word a ≡ true → is_word b ≡ true → is_word (a ++ b) ≡ true
is_word-append a b first second =
    list_all-append (λ b. not (is_space b)) a b ∙ and_from (is_word a) (is_word b) first second

-- ---- digits

-- of two words, either is a word
is_word-if : (test : Bool) (a b : List ℕ) → is_word a ≡ true → is_word b ≡ true → is_word (cond test a b) ≡ true
is_word-if true a b first second = first
is_word-if false a b first second = second

-- no byte from 48 on is a space
is_space-from_48 : (b : ℕ) → 48 ≤ b → not (is_space b) ≡ true
is_space-from_48 b high = ap not (is_space_above_32 b (omega (arith, high)))

-- the glyph of a digit is from 48 on
digit_glyph-from_48 : (upper : Bool) (d : ℕ) → 48 ≤ digit_glyph upper d
digit_glyph-from_48 upper d = go upper (nat_lt d 10)
  where
    -- the glyph of a digit below ten (`test`), and a letter of either case, are from 48 on
    go : (u test : Bool) → 48 ≤ cond test (48 + d) (cond u (55 + d) (87 + d))
    go u true = omega arith
    go true false = omega arith
    go false false = omega arith

-- a byte from 48 on before a word makes a word
is_word-cons : (b : ℕ) (text : List ℕ) → 48 ≤ b → is_word text ≡ true → is_word (b ∷ text) ≡ true
is_word-cons b text high word = and_from (not (is_space b)) (is_word text) (is_space-from_48 b high) word

-- digits before a word make a word
is_word-digits_onto : (k base : ℕ) (upper : Bool) (n : ℕ) (acc : List ℕ) → is_word acc ≡ true
    → is_word (digits_onto k base upper n acc) ≡ true
is_word-digits_onto zero base upper n acc word = word
is_word-digits_onto (suc k) base upper n acc word =
    let longer = is_word-cons (digit_glyph upper (n % base)) acc (digit_glyph-from_48 upper (n % base)) word in
    is_word-if (eqb (n / base) 0) (digit_glyph upper (n % base) ∷ acc)
    (digits_onto k base upper (n / base) (digit_glyph upper (n % base) ∷ acc)) longer
    (is_word-digits_onto k base upper (n / base) (digit_glyph upper (n % base) ∷ acc) longer)

-- a decimal number is a word
is_word-decimal : (n : ℕ) → is_word (decimal n) ≡ true
unfolding digits
is_word-decimal n = is_word-digits_onto 64 10 false n [] refl

-- a hexadecimal number is a word
is_word-hexadecimal : (count n : ℕ) → is_word (hexadecimal count n) ≡ true
unfolding hexadecimal
is_word-hexadecimal zero n = refl
is_word-hexadecimal (suc count) n =
    is_word-append (hexadecimal count (n / 16)) (digit_glyph true (n % 16) ∷ []) (is_word-hexadecimal count (n / 16))
    (is_word-cons (digit_glyph true (n % 16)) [] (digit_glyph-from_48 true (n % 16)) refl)

-- the text of a digit of the data is no space
is_space-digit_text : (moved : Bool) (digit flag : ℕ) → not (is_space (digit_text moved digit flag)) ≡ true
is_space-digit_text false digit flag = refl
is_space-digit_text true digit flag = go (eqb flag 1)
  where
    -- whether X stands for the digit (`test`) or not
    go : (test : Bool) → not (is_space (cond test 88 (digit_glyph true digit))) ≡ true
    go true = refl
    go false = is_space-from_48 (digit_glyph true digit) (digit_glyph-from_48 true digit)

-- a digit of the data before a word makes a word
is_word-digit_text_in : (a : Lanes) (place : ℕ) (rest : List ℕ) → is_word rest ≡ true
    → is_word (digit_text_in a place ∷ rest) ≡ true
is_word-digit_text_in a place rest word =
    and_from (not (is_space (digit_text_in a place))) (is_word rest)
    (is_space-digit_text (is_moved_in a place) (digit_in a place) (flag_in a place)) word

-- the text of the data is a word
is_word-lanes_text : (lanes : Lanes) → is_word (lanes_text lanes) ≡ true
unfolding lanes_text
is_word-lanes_text a =
    let r0 : List ℕ = digit_text_in a 0 ∷ [] in
    let r1 : List ℕ = digit_text_in a 1 ∷ r0 in
    let r2 : List ℕ = digit_text_in a 2 ∷ r1 in
    let r3 : List ℕ = digit_text_in a 3 ∷ r2 in
    let r4 : List ℕ = digit_text_in a 4 ∷ r3 in
    let r5 : List ℕ = digit_text_in a 5 ∷ r4 in
    let r6 : List ℕ = digit_text_in a 6 ∷ r5 in
    is_word-digit_text_in a 7 r6 (is_word-digit_text_in a 6 r5
    (is_word-digit_text_in a 5 r4 (is_word-digit_text_in a 4 r3
    (is_word-digit_text_in a 3 r2 (is_word-digit_text_in a 2 r1
    (is_word-digit_text_in a 1 r0 (is_word-digit_text_in a 0 [] refl)))))))

-- ---- names

-- two digits are a word
is_word-two_digits : (n : ℕ) → is_word (two_digits n) ≡ true
is_word-two_digits n = is_word-cons (48 + n / 10) ((48 + n % 10) ∷ []) (omega arith)
    (is_word-cons (48 + n % 10) [] (omega arith) refl)

-- the name of a line is a word
is_word-line_name : (l : ℕ) → is_word (line_name l) ≡ true
is_word-line_name l =
    is_word-if (eqb l AS) _ _ refl (is_word-if (eqb l DS0) _ _ refl (is_word-if (eqb l DS1) _ _ refl
    (is_word-if (eqb l DTACK) _ _ refl (is_word-if (eqb l BERR) _ _ refl (is_word-if (eqb l IACK) _ _ refl
    (is_word-if (nat_lt l LWORD) _ _ (is_word-append (codes "AM") (decimal (l - AM 0)) refl
    (is_word-decimal (l - AM 0)))
    (is_word-if (eqb l LWORD) _ _ refl (is_word-if (eqb l WRITE) _ _ refl
    (is_word-if (nat_lt l BBSY) _ _ (is_word-append (codes "A") (two_digits (l - A 0)) refl
    (is_word-two_digits (l - A 0)))
    (is_word-if (eqb l BBSY) _ _ refl
    (is_word-if (nat_lt l (grant 0 0)) _ _ (is_word-append (codes "BR") (decimal (l - BR 0)) refl
    (is_word-decimal (l - BR 0)))
    (is_word-if (nat_lt l (iack 1)) _ _ (is_word-append (codes "BG" ++ decimal (grant_level l) ++ codes ".")
    (decimal (grant_place l)) (is_word-append (codes "BG" ++ decimal (grant_level l)) (codes ".")
    (is_word-append (codes "BG") (decimal (grant_level l)) refl (is_word-decimal (grant_level l))) refl)
    (is_word-decimal (grant_place l)))
    (is_word-if (nat_lt l (D 0)) _ _ (is_word-append (codes "IA.") (decimal (l - iack 0)) refl
    (is_word-decimal (l - iack 0)))
    (is_word-if (nat_lt l SYSRESET) _ _ (is_word-append (codes "D") (two_digits (l - D 0)) refl
    (is_word-two_digits (l - D 0)))
    refl))))))))))))))

-- the name of a rule is a word
is_word-rule_name : (r : Rule) → is_word (rule_name r) ≡ true
is_word-rule_name r = every-rule (λ r. is_word (rule_name r)) refl r

-- ---- the texts

-- the text of a tenure is a word
is_word-tenure_text : (level slot : ℕ) → is_word (tenure_text level slot) ≡ true
is_word-tenure_text level slot =
    is_word-append (codes "slot" ++ decimal slot ++ codes "_BR") (decimal level)
    (is_word-append (codes "slot" ++ decimal slot) (codes "_BR")
    (is_word-append (codes "slot") (decimal slot) refl (is_word-decimal slot))
    refl) (is_word-decimal level)

-- the name of an address space is a word
is_word-space_text : (modifier : ℕ) → is_word (space_text modifier) ≡ true
is_word-space_text modifier =
    is_word-if (eqb (highest_address modifier) 31) _ _ refl (is_word-if (eqb (highest_address modifier) 23) _ _ refl
    refl)

-- the text that marks a block transfer, or its absence, is a word
is_word-block_text : (c : Class) → is_word (block_text c) ≡ true
is_word-block_text class.K = refl
is_word-block_text class.S = refl
is_word-block_text class.I = refl
is_word-block_text class.F = refl

-- the text of an address is a word
is_word-address_text : (c : Class) (modifier address : ℕ) → is_word (address_text c modifier address) ≡ true
is_word-address_text c modifier address =
    is_word-append (space_text modifier ++ block_text c ++ codes "_") (hexadecimal (address_digits modifier) address)
    (is_word-append (space_text modifier ++ block_text c) (codes "_")
    (is_word-append (space_text modifier) (block_text c) (is_word-space_text modifier) (is_word-block_text c)) refl)
    (is_word-hexadecimal (address_digits modifier) address)

-- the text of a direction is a word
is_word-direction_text : (d : Direction) → is_word (direction_text d) ≡ true
is_word-direction_text Read = refl
is_word-direction_text Write = refl

-- the text of an answer is a word
is_word-answer_text : (a : AnswerLine) → is_word (answer_text a) ≡ true
is_word-answer_text Dtack = refl
is_word-answer_text Berr = refl

-- the text of the data, if there are data, is a word
is_word-data_text : (lanes : Option Lanes) → is_word (data_text lanes) ≡ true
is_word-data_text None = refl
is_word-data_text (Some lanes) = is_word-append (codes "_") (lanes_text lanes) refl (is_word-lanes_text lanes)

-- the text of a break is a word
is_word-break_text : (r : Rule) (line : ℕ) → is_word (break_text r line) ≡ true
is_word-break_text r line =
    is_word-append (rule_name r ++ codes "_") (line_name line)
    (is_word-append (rule_name r) (codes "_") (is_word-rule_name r) refl)
    (is_word-line_name line)

-- the text of a verdict is a word
is_word-verdict_text : (v : ListedVerdict) → is_word (verdict_text v) ≡ true
is_word-verdict_text Conforming = refl
is_word-verdict_text NeverIdle = refl
is_word-verdict_text (Broken r instant line) = is_word-break_text r line
is_word-verdict_text (Unreadable r instant line) = is_word-break_text r line

-- the text that is shown of a row is a word
is_word-shown_text : (row : Row) → is_word (shown_text row) ≡ true
unfolding shown_text
is_word-shown_text (Start instant) = refl
is_word-shown_text (Reset instant) = refl
is_word-shown_text (OpenTenure start end) = refl
is_word-shown_text (Tenure start level slot end) = is_word-tenure_text level slot
is_word-shown_text (AddressedCycle start class modifier address end) = is_word-address_text class modifier address
is_word-shown_text (FreeCycle start modifier end) =
    is_word-append (codes "AM") (hexadecimal 2 modifier) refl (is_word-hexadecimal 2 modifier)
is_word-shown_text (InterruptCycle start level end) = is_word-append (codes "IACK") (decimal level) refl
    (is_word-decimal level)
is_word-shown_text (Transfer direction line start cycle answer close lanes) =
    is_word-append (direction_text direction ++ data_text lanes) (answer_text line)
    (is_word-append (direction_text direction) (data_text lanes) (is_word-direction_text direction)
    (is_word-data_text lanes))
    (is_word-answer_text line)
is_word-shown_text (PendingTransfer start direction) =
    is_word-append (direction_text direction) (codes "_pending") (is_word-direction_text direction) refl
is_word-shown_text (Verdict outcome) = is_word-verdict_text outcome

-- ---- the changes

-- the text of the change is a word
abbrev pub shows_word : ShownChange → Bool
shows_word c = is_word c.text

-- the text of each change is a word
abbrev are_words : List ShownChange → Bool
are_words changes = list_all shows_word changes

-- a word that is shown up to an end, if there is one, and the hyphen there, are words
are_words-shows_until : (v : ShownVariable) (start : ℕ) (text : List ℕ) (end : Option ℕ) → is_word text ≡ true
    → are_words (shows_until v start text end) ≡ true
are_words-shows_until v start text None word = and_from (is_word text) true word refl
are_words-shows_until v start text (Some end) word = and_from (is_word text) true word refl

-- the changes of a row whose text is a word show words
are_words-changes_with : (text : List ℕ) (row : Row) → is_word text ≡ true → are_words (changes_with text row) ≡ true
are_words-changes_with text (Start instant) word = refl
are_words-changes_with text (Reset instant) word = refl
are_words-changes_with text (OpenTenure start end) word = are_words-shows_until shown.Tenure start text end word
are_words-changes_with text (Tenure start level slot end) word = are_words-shows_until shown.Tenure start text end word
are_words-changes_with text (AddressedCycle start class modifier address end) word = are_words-shows_until shown.Cycle
    start text end word
are_words-changes_with text (FreeCycle start modifier end) word = are_words-shows_until shown.Cycle start text end word
are_words-changes_with text (InterruptCycle start level end) word = are_words-shows_until shown.Cycle start text end
    word
are_words-changes_with text (Transfer direction line start cycle answer close lanes) word =
    are_words-shows_until shown.Transfer start text close word
are_words-changes_with text (PendingTransfer start direction) word = are_words-shows_until shown.Transfer start text
    None word
are_words-changes_with text (Verdict Conforming) word = refl
are_words-changes_with text (Verdict NeverIdle) word = refl
are_words-changes_with text (Verdict (Broken r instant line)) word = and_from (is_word text) true word refl
are_words-changes_with text (Verdict (Unreadable r instant line)) word = and_from (is_word text) true word refl

-- the changes of rows show words
are_words-row_changes : (rows : List Row) → are_words (flat_map row_changes rows) ≡ true
unfolding row_changes
are_words-row_changes [] = refl
are_words-row_changes (row ∷ rows) =
    list_all-append shows_word (row_changes row) (flat_map row_changes rows)
    ∙ and_from (are_words (row_changes row)) (are_words (flat_map row_changes rows))
    (are_words-changes_with (shown_text row) row (is_word-shown_text row)) (are_words-row_changes rows)

-- all changes of rows, those of the opening too, show words
are_words-all_changes : (rows : List Row) → are_words (all_changes rows) ≡ true
are_words-all_changes rows = list_all-append shows_word opening_changes (flat_map row_changes rows)
    ∙ are_words-row_changes rows

-- ---- changes that are, at each instant, those of rows

-- the changes at an instant
abbrev at : ℕ → List ShownChange → List ShownChange
at instant changes = filter (λ c. eqb c.instant instant) changes

-- of two lists of changes that show words, either shows words
are_words-if : (test : Bool) (a b : List ShownChange) → are_words a ≡ true → are_words b ≡ true
    → are_words (cond test a b) ≡ true
are_words-if true a b first second = first
are_words-if false a b first second = second

-- of changes that show words, those at an instant show words
are_words-at : (instant : ℕ) (changes : List ShownChange) → are_words changes ≡ true
    → are_words (at instant changes) ≡ true
are_words-at instant [] words = refl
are_words-at instant (c ∷ changes) words =
    let parts = and_parts (shows_word c) (are_words changes) words in
    let rest = are_words-at instant changes parts.1 in
    are_words-if (eqb c.instant instant) (c ∷ at instant changes) (at instant changes)
    (and_from (shows_word c) (are_words (at instant changes)) parts.0 rest) rest

-- changes that show words at each instant show words
are_words-each_instant : (changes : List ShownChange) → ((instant : ℕ) → are_words (at instant changes) ≡ true)
    → are_words changes ≡ true
are_words-each_instant [] each = refl
are_words-each_instant (c ∷ changes) each =
    and_from (shows_word c) (are_words changes) shows_word-first
    (are_words-each_instant changes (λ instant. rest instant))
  where
    -- the first change shows a word
    shows_word-first : shows_word c ≡ true
    shows_word-first = (and_parts (shows_word c) (are_words (at c.instant changes))
        (sym (ap (λ (test : Bool). are_words (cond test (c ∷ at c.instant changes) (at c.instant changes)))
        (eq-eqb c.instant c.instant refl)) ∙ each c.instant)).0

    -- at each instant the other changes show words
    rest : (instant : ℕ) → are_words (at instant changes) ≡ true
    rest instant = go (eqb c.instant instant) (each instant)
      where
        -- whether the first change is at the instant or not
        go : (test : Bool) → are_words (cond test (c ∷ at instant changes) (at instant changes)) ≡ true
            → are_words (at instant changes) ≡ true
        go true words = (and_parts (shows_word c) (are_words (at instant changes)) words).1
        go false words = words

-- if `changes` are, at each instant, those of `rows`, their texts are words
pub are_words-of_rows : (rows : List Row) (changes : List ShownChange)
    → ((instant : ℕ) → filter (λ (c : ShownChange). eqb c.instant instant) changes ≡ changes_at rows instant)
    → list_all shows_word changes ≡ true
are_words-of_rows rows changes are =
    are_words-each_instant changes (λ instant. ap are_words (are instant)
    ∙ are_words-at instant (all_changes rows) (are_words-all_changes rows))
