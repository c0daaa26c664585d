-- Bytes that differ in one byte only have different sums, since each step of the sum is injective in the byte, and in
-- the sum before it.
use Rattle.std.proofs.Common.{◌≡◌, ℕ, suc, ◌+◌, ◌-◌, ◌*◌, ◌%◌, ◌^◌, ◌<◌, ◌≤◌, List, [], ◌∷◌, ◌++◌, length, take, drop}
use Rattle.std.proofs.Common.{refl, sym, ap, subst, ◌∙◌, arith, inl, inr, length-append}
use Rattle.std.specs.List.{fold}
use Rattle.std.specs.Int.{w64, bit_at, from_le_bytes, to_le_bytes}
use Rattle.std.specs.Int.Bits.{bit_xor}
use Rattle.std.proofs.Math.Nat.{add-mul-mod_self_right}
use Rattle.std.proofs.Math.Seq.{drop-append-add, take-append-add}
use Rattle.std.proofs.lemmas.Bool.{cases_lt}
use Rattle.std.proofs.lemmas.List.{append_cancel_left, drop_at, take-append-le, take_at}
use Rattle.std.proofs.lemmas.Nat.{from_le_bytes-to_le_bytes_8, mul-mod_first, xor_comm, xor_lt}
use Rattle.std.proofs.lemmas.Nat.Bits.{bit_at-lt, bit_at_xor, same_from_bits}
use Rattle.vme_part_format.specs.Sums.{DifferInOne, fnv_prime, offset_basis, sum_of, summed}
use Rattle.vme_part_format.proofs.FieldLaws.{IsBytes, IsBytes-rest, IsBytes-take}

-- two bits that give the same sum with a third, modulo 2, are equal
xor_bit-injective : (s a b x y : ℕ) → s < 2 → a < 2 → b < 2 → x ≡ (s + a) % 2 → y ≡ (s + b) % 2 → x ≡ y → a ≡ b
xor_bit-injective s a b x y ls la lb ex ey e = omega arith

-- the exclusive or with s is injective
pub bit_xor-injective : (s a b : ℕ) → bit_xor s a ≡ bit_xor s b → a ≡ b
bit_xor-injective s a b e =
    same_from_bits a b (λ i. xor_bit-injective (bit_at s i) (bit_at a i) (bit_at b i) (bit_at (bit_xor s a) i)
    (bit_at (bit_xor s b) i) (bit_at-lt s i) (bit_at-lt a i) (bit_at-lt b i) (bit_at_xor s a i) (bit_at_xor s b i)
    (ap (λ (n : ℕ). bit_at n i) e))

-- the inverse of FNV's prime modulo 2 ^ 64
inverse_of_prime : ℕ
inverse_of_prime = 14886173955864302971

-- x multiplied by the prime and by its inverse is x modulo 2 ^ 64
prime_times_inverse : (x : ℕ) → x * fnv_prime * inverse_of_prime ≡ x + (x * 887285111055) * 2 ^ 64
unfolding inverse_of_prime
prime_times_inverse x = omega arith

-- a number below 2^64 that is multiplied by the prime, and then by its inverse, is itself modulo 2^64
times_prime-inverse : (x : ℕ) → x < 2 ^ 64 → ((x * fnv_prime) % 2 ^ 64 * inverse_of_prime) % 2 ^ 64 ≡ x
times_prime-inverse x low =
    mul-mod_first (x * fnv_prime) inverse_of_prime (2 ^ 64)
    ∙ ap (λ (n : ℕ). n % 2 ^ 64) (prime_times_inverse x)
    ∙ add-mul-mod_self_right x (x * 887285111055) (2 ^ 64)
    ∙ omega arith

-- multiplying numbers below 2^64 by the prime, modulo 2^64, is injective
times_prime-injective : (x y : ℕ) → x < 2 ^ 64 → y < 2 ^ 64 → (x * fnv_prime) % 2 ^ 64 ≡ (y * fnv_prime) % 2 ^ 64 → x
    ≡ y
times_prime-injective x y lx ly e =
    sym (times_prime-inverse x lx) ∙ ap (λ (n : ℕ). (n * inverse_of_prime) % 2 ^ 64) e ∙ times_prime-inverse y ly

-- a byte is below 2^64
byte-below_64_bits : (b : ℕ) → b < 256 → b < 2 ^ 64
byte-below_64_bits b low = omega arith

-- from the same sum, two bytes that give the same sum are equal
pub summed-injective_in_byte : (s a b : ℕ) → s < 2 ^ 64 → a < 256 → b < 256 → summed s a ≡ summed s b → a ≡ b
summed-injective_in_byte s a b ls la lb e =
    bit_xor-injective s a b (times_prime-injective (bit_xor s a) (bit_xor s b)
    (xor_lt 64 s a ls (byte-below_64_bits a la))
    (xor_lt 64 s b ls (byte-below_64_bits b lb)) e)

-- from two sums, a byte that gives the same sum shows that they were equal
pub summed-injective_in_sum : (s t b : ℕ) → s < 2 ^ 64 → t < 2 ^ 64 → b < 256 → summed s b ≡ summed t b → s ≡ t
summed-injective_in_sum s t b ls lt lb e =
    bit_xor-injective b s t (xor_comm b s
    ∙ times_prime-injective (bit_xor s b) (bit_xor t b) (xor_lt 64 s b ls (byte-below_64_bits b lb))
    (xor_lt 64 t b lt (byte-below_64_bits b lb)) e
    ∙ xor_comm t b)

-- a sum is below 2^64
summed-below : (s b : ℕ) → summed s b < 2 ^ 64
summed-below s b = omega arith

-- if from s and t the same bytes give the same sum, s and t are equal
pub fold_summed-injective_in_sum : (bytes : List ℕ) (s t : ℕ) → IsBytes bytes → s < 2 ^ 64 → t < 2 ^ 64
    → fold summed s bytes ≡ fold summed t bytes → s ≡ t
fold_summed-injective_in_sum [] s t low ls lt e = e
fold_summed-injective_in_sum (b ∷ bytes) s t low ls lt e =
    summed-injective_in_sum s t b ls lt (low 0)
    (fold_summed-injective_in_sum bytes (summed s b) (summed t b) (IsBytes-rest b bytes low) (summed-below s b)
    (summed-below t b) e)

-- the sum of bytes from a sum below 2^64 is below 2^64
pub fold_summed-below : (bytes : List ℕ) (s : ℕ) → s < 2 ^ 64 → fold summed s bytes < 2 ^ 64
fold_summed-below [] s low = low
fold_summed-below (b ∷ bytes) s low = fold_summed-below bytes (summed s b) (summed-below s b)

-- byte strings that differ in one byte at most, and have the same sum, are equal
pub fold_summed-injective_in_byte : (front back : List ℕ) (a b s : ℕ) → s < 2 ^ 64 → a < 256 → b < 256 → IsBytes back
    → fold summed s (front ++ a ∷ back) ≡ fold summed s (front ++ b ∷ back) → a ≡ b
fold_summed-injective_in_byte [] back a b s ls la lb low e =
    summed-injective_in_byte s a b ls la lb
    (fold_summed-injective_in_sum back (summed s a) (summed s b) low (summed-below s a) (summed-below s b) e)
fold_summed-injective_in_byte (c ∷ front) back a b s ls la lb low e =
    fold_summed-injective_in_byte front back a b (summed s c) (summed-below s c) la lb low e

-- the last of some bytes are bytes
IsBytes-back : (front rest : List ℕ) → IsBytes (front ++ rest) → IsBytes rest
IsBytes-back [] rest h = h
IsBytes-back (b ∷ front) rest h = IsBytes-back front rest (IsBytes-rest b (front ++ rest) h)

-- byte strings that differ in one byte only have different sums
pub sum_of-differ_in_one : (bytes others : List ℕ) → IsBytes bytes → DifferInOne bytes others → sum_of others
    ≡ sum_of bytes → ⊥
sum_of-differ_in_one bytes others fits d e =
    let there : IsBytes (d.front ++ d.one ∷ d.back) = subst (λ (xs : List ℕ). IsBytes xs) d.bytes-are fits in
    let rest = IsBytes-back d.front (d.one ∷ d.back) there in
    let same : sum_of (d.front ++ d.one ∷ d.back) ≡ sum_of (d.front ++ d.other ∷ d.back) =
    sym (ap sum_of d.bytes-are) ∙ sym e ∙ ap sum_of d.others-are in
    d.apart (fold_summed-injective_in_byte d.front d.back d.one d.other offset_basis (omega arith) (rest 0) d.byte
    (IsBytes-rest d.one d.back rest) same)

-- `bytes` with their sum at the end
abbrev pub with_sum : List ℕ → List ℕ
with_sum bytes = bytes ++ to_le_bytes w64 (sum_of bytes)

-- sums of which the bytes are equal are equal
sum_bytes-injective : (a b : List ℕ) → to_le_bytes w64 (sum_of a) ≡ to_le_bytes w64 (sum_of b) → sum_of a ≡ sum_of b
sum_bytes-injective a b e =
    sym (from_le_bytes-to_le_bytes_8 (sum_of a) (fold_summed-below a offset_basis (omega arith)))
    ∙ ap (from_le_bytes w64) e
    ∙ from_le_bytes-to_le_bytes_8 (sum_of b) (fold_summed-below b offset_basis (omega arith))

-- if a and b with their sums are equal except for one byte before the sum, that byte is equal too
with_sum-same_before_sum : (a b front back : List ℕ) (one other r : ℕ) → IsBytes (with_sum a) → with_sum a ≡ front
    ++ one ∷ back
    → with_sum b ≡ front ++ other ∷ back → length a ≡ length front + suc r → length b ≡ length front + suc r
    → other < 256
    → one ≡ other
with_sum-same_before_sum a b front back one other r fits ea eb la lb byte =
    let sum_a = to_le_bytes w64 (sum_of a) in
    let sum_b = to_le_bytes w64 (sum_of b) in
    let a-is : a ≡ front ++ one ∷ take r back =
    sym (take_at a sum_a (length front + suc r) la) ∙ ap (take (length front + suc r)) ea
    ∙ take-append-add front (one ∷ back) (suc r) in
    let b-is : b ≡ front ++ other ∷ take r back =
    sym (take_at b sum_b (length front + suc r) lb) ∙ ap (take (length front + suc r)) eb
    ∙ take-append-add front (other ∷ back) (suc r) in
    let sum_a-is : sum_a ≡ drop r back =
    sym (drop_at a sum_a (length front + suc r) la) ∙ ap (drop (length front + suc r)) ea
    ∙ drop-append-add front (one ∷ back) (suc r) in
    let sum_b-is : sum_b ≡ drop r back =
    sym (drop_at b sum_b (length front + suc r) lb) ∙ ap (drop (length front + suc r)) eb
    ∙ drop-append-add front (other ∷ back) (suc r) in
    let same : sum_of (front ++ one ∷ take r back) ≡ sum_of (front ++ other ∷ take r back) =
    sym (ap sum_of a-is) ∙ sum_bytes-injective a b (sum_a-is ∙ sym sum_b-is) ∙ ap sum_of b-is in
    let rest = IsBytes-back front (one ∷ back) (subst (λ (xs : List ℕ). IsBytes xs) ea fits) in
    fold_summed-injective_in_byte front (take r back) one other offset_basis (omega arith) (rest 0) byte
    (IsBytes-take r back (IsBytes-rest one back rest)) same

-- if a and b with their sums are equal except for one byte of the sum, that byte is equal too
with_sum-same_in_sum : (a b front back : List ℕ) (one other : ℕ) → with_sum a ≡ front ++ one ∷ back
    → with_sum b ≡ front ++ other ∷ back
    → length a ≤ length front → length b ≡ length a → one ≡ other
with_sum-same_in_sum a b front back one other ea eb la lb =
    let a-is : a ≡ take (length a) front =
    sym (take_at a (to_le_bytes w64 (sum_of a)) (length a) refl) ∙ ap (take (length a)) ea
    ∙ take-append-le (length a) front (one ∷ back) la in
    let b-is : b ≡ take (length a) front =
    sym (take_at b (to_le_bytes w64 (sum_of b)) (length a) lb) ∙ ap (take (length a)) eb
    ∙ take-append-le (length a) front (other ∷ back) la in
    let whole : front ++ one ∷ back ≡ front ++ other ∷ back = sym ea ∙ ap with_sum (a-is ∙ sym b-is) ∙ eb in
    let rest : one ∷ back ≡ other ∷ back = append_cancel_left front (one ∷ back) (other ∷ back) whole in
    cc

-- two byte strings with their sums don't differ in one byte alone
pub with_sum-differ_in_more : (a b : List ℕ) → IsBytes (with_sum a) → DifferInOne (with_sum a) (with_sum b) → ⊥
with_sum-differ_in_more a b fits d =
    let f = d.front in
    let many_a : length a + 8 ≡ length f + suc (length d.back) =
    sym (length-append a (to_le_bytes w64 (sum_of a))) ∙ ap (λ (xs : List ℕ). length xs) d.bytes-are
    ∙ length-append f (d.one ∷ d.back) in
    let many_b : length b + 8 ≡ length f + suc (length d.back) =
    sym (length-append b (to_le_bytes w64 (sum_of b))) ∙ ap (λ (xs : List ℕ). length xs) d.others-are
    ∙ length-append f (d.other ∷ d.back) in
    elim (cases_lt (length f) (length a)) [
      | inl lt ↦ d.apart (with_sum-same_before_sum a b f d.back d.one d.other (length a - length f - 1) fits d.bytes-are
          d.others-are
          (omega arith) (omega arith) d.byte)
      | inr le ↦ d.apart (with_sum-same_in_sum a b f d.back d.one d.other d.bytes-are d.others-are le (omega arith))
    ]
