-- The parts of a reference: its name, and the numbers of its index between brackets, with a colon or without one.
use Rattle.std.proofs.Common.{◌≡◌, ℕ, ◌+◌, ◌-◌, ◌<◌, ◌≤◌, Bool, true, false, cond, eqb, ltb, leb, not, ◌&&◌, List}
use Rattle.std.proofs.Common.{length, get_or, take, drop, Option, Some, None, option_map, Result, Ok, Err, refl, sym}
use Rattle.std.proofs.Common.{ap, ◌∙◌, arith}
use Rattle.std.specs.Prelude.{option_and_then}
use Rattle.std.specs.Str.{all_ascii_digits}
use Rattle.std.specs.List.{list_any, position_or_len, suffix_len}
use Rattle.std.proofs.lemmas.List.Sums.{position_or_len_is, suffix_len_is}
use Rattle.std.proofs.lemmas.List.Folds.{list_any_at, list_any_none}
use Rattle.std.proofs.lemmas.List.{take_rest, get_or_default}
use Rattle.std.proofs.lemmas.Str.Parse.{digits_value_short, numerals_by_value, tells_all_ascii_digits}
use Rattle.vcd_read.proofs.NumberLemmas.{all_ascii_digits-is_number}
use Rattle.std.proofs.lemmas.Bool.{lt-ltb, false≢true, and_right, false_from_ne_true}
use Rattle.memchr.specs.Find.{Passes, Nowhere, NoneBefore, NoneAfter, is_byte}
use Rattle.vcd_read.specs.declared.fault.FaultKind.{FaultKind}
use Rattle.vcd_read.specs.declared.fault.FaultKind.TheVariants.{NumberTooLarge}
use Rattle.vcd_read.specs.Numbers.{is_number, number, number_below}
use Rattle.vcd_read.specs.Header.{index_number, index_between, bracketed}

-- ---- numbers

-- where there is no number
abbrev no_number : Option ℕ
no_number = None

-- a number is refused with this kind of fault
abbrev refused : FaultKind → Result ℕ FaultKind
refused kind = Err kind

-- the number of at most nine digits is below the limit
number-nine_digits : (text : List ℕ) → is_number text ≡ true → length text ≤ 9 → number text < 1000000000
number-nine_digits text digits short = digits_value_short (numerals_by_value (λ ds. all_ascii_digits ds ≡ true)
    tells_all_ascii_digits) text 9 (all_ascii_digits-is_number text digits) short

-- if a number is refused, and all digits fit, the text has other bytes than digits, and so is no number of an index
index_number-none_by_tests : (text : List ℕ) (kind fault : FaultKind) (digits fits short : Bool)
    → (digits ≡ true → fits ≡ true)
    → refused kind ≡ cond digits (cond fits (Ok (number text)) (Err NumberTooLarge)) (Err fault) → no_number
    ≡ cond (digits && short) (Some (number text)) None
index_number-none_by_tests text kind fault false fits short below e = refl
index_number-none_by_tests text kind fault true true short below e = absurd (cc e)
index_number-none_by_tests text kind fault true false short below e = absurd (false≢true (below refl))

-- a short text that is no number below the limit is no number of an index
pub index_number-none : (text : List ℕ) (kind fault : FaultKind) → length text ≤ 9 → refused kind
    ≡ number_below 1000000000 fault text → no_number ≡ index_number text
index_number-none text kind fault short e =
    index_number-none_by_tests text kind fault (is_number text) (ltb (number text) 1000000000) (leb (length text) 9)
    (λ digits. lt-ltb _ _ (number-nine_digits text digits short)) e

-- ---- the colon

-- the numbers of `front` and `back`, if both are numbers of an index
abbrev pub two_numbers : List ℕ → List ℕ → Option (ℕ × ℕ)
two_numbers front back = option_and_then (λ (m : ℕ). option_map (λ (l : ℕ). (m, l)) (index_number back))
    (index_number front)

-- the number of the text twice, if it is a number of an index
abbrev pub one_number : List ℕ → Option (ℕ × ℕ)
one_number text = option_map (λ (n : ℕ). (n, n)) (index_number text)

-- the byte is a colon
abbrev is_colon : ℕ → Bool
is_colon b = eqb b 58

-- the numbers before and after a colon at this place, if there is one (`some`), or else the one number
abbrev colon_cut : List ℕ → Bool → ℕ → Option (ℕ × ℕ)
colon_cut text some colon = cond some (two_numbers (take colon text) (drop (colon + 1) text)) (one_number text)

-- if the first colon stands at this place, the index has the numbers before it and after it
pub index_between-colon : (text : List ℕ) (colon : ℕ) → NoneBefore (Passes (is_byte 58) text) 0 (length text) colon
    → Passes (is_byte 58) text colon
    → index_between text ≡ two_numbers (take colon text) (take (length text - (colon + 1)) (drop (colon + 1) text))
index_between-colon text colon first here =
    let any : list_any is_colon text ≡ true = list_any_at is_colon text colon 0 first.high here in
    let place : position_or_len is_colon text ≡ colon = position_or_len_is is_colon text colon 0
    (omega (arith, first.high)) (λ k lt. false_from_ne_true _ (first.before k (omega arith) lt)) (λ _. here) in
    ap (λ (some : Bool). colon_cut text some (position_or_len is_colon text)) any
    ∙ ap (colon_cut text true) place
    ∙ ap (two_numbers (take colon text)) (sym (take_rest text (colon + 1)))

-- without a colon the index is one number
pub index_between-one : (text : List ℕ) → Nowhere (Passes (is_byte 58) text) 0 (length text) → index_between text
    ≡ one_number text
index_between-one text none =
    let any : list_any is_colon text ≡ false = list_any_none is_colon text
    (λ k d lt. false_from_ne_true _ (λ here. none k (omega arith) lt (ap is_colon (get_or_default text k 0 d lt)
    ∙ here))) in
    ap (λ (some : Bool). colon_cut text some (position_or_len is_colon text)) any

-- where `front` is no number, there are no two numbers
pub two_numbers-no_first : (front back : List ℕ) → no_number ≡ index_number front → two_numbers front back ≡ None
two_numbers-no_first front back e = rw (← e) refl

-- where `back` is no number, there are no two numbers
pub two_numbers-no_second : (front back : List ℕ) (m : ℕ) → Some m ≡ index_number front → no_number ≡ index_number back
    → two_numbers front back ≡ None
two_numbers-no_second front back m e f = rw (← e, ← f) refl

-- where both are numbers, these are the two
pub two_numbers-both : (front back : List ℕ) (m l : ℕ) → Some m ≡ index_number front → Some l ≡ index_number back
    → two_numbers front
    back ≡ Some (m, l)
two_numbers-both front back m l e f = rw (← e, ← f) refl

-- where the text is no number, there is none
pub one_number-none : (text : List ℕ) → no_number ≡ index_number text → one_number text ≡ None
one_number-none text e = rw (← e) refl

-- where the text is a number, it is the one
pub one_number-some : (text : List ℕ) (n : ℕ) → Some n ≡ index_number text → one_number text ≡ Some (n, n)
one_number-some text n e = rw (← e) refl

-- ---- the brackets

-- the byte is an opening bracket
abbrev opens : ℕ → Bool
opens b = eqb b 91

-- what is before the last bracket of `front`, after which `later` bytes stand, and what is after it, if `both` brackets
-- are there
abbrev parts_at : List ℕ → Bool → ℕ → Option (List ℕ × List ℕ)
parts_at front both later = cond both (Some (take (length front - later - 1) front, drop (length front - later) front))
    None

-- a name and what is between the brackets, which are there
abbrev some_parts : List ℕ → List ℕ → Option (List ℕ × List ℕ)
some_parts name inner = Some (name, inner)

-- a text without its last byte
abbrev without_last : List ℕ → List ℕ
without_last text = take (length text - 1) text

-- without an opening bracket before the last byte there are no parts
pub bracketed-none : (text : List ℕ) → Nowhere (Passes (is_byte 91) (without_last text)) 0 (length (without_last text))
    → bracketed text ≡ None
bracketed-none text none =
    let any : list_any opens (without_last text) ≡ false = list_any_none opens (without_last text)
    (λ k d lt. false_from_ne_true _ (λ here. none k (omega arith) lt
    (ap opens (get_or_default (without_last text) k 0 d lt)
    ∙ here))) in
    ap (λ (b : Bool). parts_at (without_last text) b (suffix_len (λ x. not (opens x)) (without_last text)))
    (and_right (eqb (get_or text (length text - 1) 0) 93) (list_any opens (without_last text)) any)

-- if the last byte is a closing bracket, and the last opening one stands at this place, the parts are what is before
-- it, and what is between them
pub bracketed-some : (text : List ℕ) (place : ℕ) → get_or text (length text - 1) 0 ≡ 93
    → NoneAfter (Passes (is_byte 91) (without_last text)) 0 (length (without_last text)) place → Passes (is_byte 91)
    (without_last text) place
    → bracketed text ≡ Some (
      take place (without_last text),
      take (length (without_last text) - (place + 1))
          (drop (place + 1) (without_last text)),
    )
bracketed-some text place closes last here =
    let front = without_last text in
    let any : list_any opens front ≡ true = list_any_at opens front place 0 last.high here in
    let back : place + 1 - 1 ≡ place = omega arith in
    let opened : not (opens (get_or front (place + 1 - 1) 0)) ≡ false = rw back (ap not here) in
    let later : suffix_len (λ x. not (opens x)) front ≡ length front - (place + 1) = suffix_len_is (λ x. not (opens x))
    front (place + 1) 0 (omega (arith, last.high)) (λ k low high. ap not (false_from_ne_true _ (last.after k low high)))
    (λ _. opened) in
    let before : length front - (length front - (place + 1)) - 1 ≡ place = omega (arith, last.high) in
    let after : length front - (length front - (place + 1)) ≡ place + 1 = omega (arith, last.high) in
    ap (λ (b : ℕ). parts_at front (eqb b 93 && list_any opens front) (suffix_len (λ x. not (opens x)) front)) closes
    ∙ ap (λ (b : Bool). parts_at front b (suffix_len (λ x. not (opens x)) front)) any
    ∙ ap (parts_at front true) later
    ∙ ap (λ (n : ℕ). some_parts (take n front) (drop (length front - (length front - (place + 1))) front)) before
    ∙ ap (λ (n : ℕ). some_parts (take place front) (drop n front)) after
    ∙ ap (some_parts (take place front)) (sym (take_rest front (place + 1)))
