-- The bits of a value are those of its digits, and before them bits that extend the first digit, up to the size.
use Rattle.std.proofs.Common.{◌≡◌, ℕ, ◌+◌, ◌-◌, ◌<◌, ◌≤◌, List, [], ◌∷◌, ◌++◌, length, get_or, take, map, replicate}
use Rattle.std.proofs.Common.{refl, ap, ◌∙◌, arith}
use Rattle.std.proofs.lemmas.List.{get_or_append_left, get_or_past, get_or-append_right, get_or-replicate, get_or-map}
use Rattle.std.proofs.lemmas.List.{length-map, length-append, length-replicate, take_more}
use Rattle.vcd_read.specs.declared.dump.Bit.{Bit}
use Rattle.vcd_read.specs.declared.dump.Bit.TheVariants.{X}
use Rattle.vcd_read.specs.Numbers.{bit_of, fill_of, fill_before, extended}

-- what extends a value with digits extends its first digit
fill_before-first : (digits : List ℕ) → 0 < length digits → fill_before (map bit_of digits)
    ≡ fill_of (bit_of (get_or digits 0 0))
fill_before-first [] some = absurd (omega (arith, some))
fill_before-first (d ∷ digits) some = refl

-- a value of at most `size` digits has `size` bits
pub length-extended : (size : ℕ) (digits : List ℕ) → length digits ≤ size → length (extended size digits) ≡ size
length-extended size digits fits =
    let bits : List Bit = map bit_of digits in
    let len = length-map digits bit_of in
    length-append (replicate (size - length bits) (fill_before bits)) bits
    ∙ (omega (arith, len, length-replicate (size - length bits) (fill_before bits), fits))

-- a bit left of the digits extends the first digit
pub bit_fill : (size : ℕ) (digits : List ℕ) (place missing : ℕ) → 0 < length digits → length digits ≤ size
    → missing
    ≡ size - length digits → place < missing
    → get_or (extended size digits) place X ≡ fill_of (bit_of (get_or digits 0 0))
bit_fill size digits place missing some fits e lt =
    let bits : List Bit = map bit_of digits in
    let fill : List Bit = replicate (size - length bits) (fill_before bits) in
    let len = length-map digits bit_of in
    let in_fill : place < length fill = omega (
      arith,
      len,
      e,
      lt,
      length-replicate (size - length bits)
          (fill_before bits),
    ) in
    get_or_append_left fill bits X place in_fill ∙ get_or-replicate (size - length bits) place (fill_before bits) X
    (omega (arith, len, e, lt)) ∙ fill_before-first digits some

-- a bit that isn't left of the digits is that of its digit
pub bit_digit : (size : ℕ) (digits : List ℕ) (place missing : ℕ) → length digits ≤ size → missing
    ≡ size - length digits
    → missing ≤ place → place < size
    → get_or (extended size digits) place X ≡ bit_of (get_or digits (place - missing) 0)
bit_digit size digits place missing fits e le lt =
    let bits : List Bit = map bit_of digits in
    let fill : List Bit = replicate (size - length bits) (fill_before bits) in
    let len = length-map digits bit_of in
    let in_fill : length fill ≡ missing = length-replicate (size - length bits) (fill_before bits)
    ∙ (omega (arith, len, e)) in
    get_or-append_right fill bits missing place X in_fill le ∙ get_or-map bit_of digits (place - missing) 0 X
    (omega (arith, e, le, lt))

-- past the last bit there is x
pub bit_past : (size : ℕ) (digits : List ℕ) (place : ℕ) → length digits ≤ size → size ≤ place
    → get_or (extended size digits) place X ≡ X
bit_past size digits place fits le = get_or_past (extended size digits) place X
    (omega (arith, length-extended size digits fits, le))

-- one more bit, left of the digits, extends the first digit
pub take-extended_fill : (size : ℕ) (digits : List ℕ) (place missing : ℕ) → 0 < length digits → length digits ≤ size
    → missing
    ≡ size - length digits → place < missing
    → take (place + 1) (extended size digits) ≡ take place (extended size digits)
    ++ fill_of (bit_of (get_or digits 0 0)) ∷ []
take-extended_fill size digits place missing some fits e lt =
    take_more (extended size digits) place X (omega (arith, length-extended size digits fits, e, lt))
    ∙ ap (λ (b : Bit). take place (extended size digits) ++ b ∷ [])
    (bit_fill size digits place missing some fits e lt)

-- one more bit, not left of the digits, is that of its digit
pub take-extended_digit : (size : ℕ) (digits : List ℕ) (place missing : ℕ) → length digits ≤ size → missing
    ≡ size - length digits → missing ≤ place → place < size
    → take (place + 1) (extended size digits) ≡ take place (extended size digits)
    ++ bit_of (get_or digits (place - missing) 0) ∷ []
take-extended_digit size digits place missing fits e le lt =
    take_more (extended size digits) place X (omega (arith, length-extended size digits fits, lt))
    ∙ ap (λ (b : Bit). take place (extended size digits) ++ b ∷ [])
    (bit_digit size digits place missing fits e le lt)
