-- The unused codes of a text that are found, in the order of their numbers, and one more of them.
use Rattle.std.proofs.Common.{◌≡◌, ℕ, ◌+◌, ◌<◌, List, [], ◌∷◌, ◌++◌, length, get_or, sym, subst, arith, inl, inr}
use Rattle.std.proofs.Common.{map}
use Rattle.std.specs.Prelude.{All}
use Rattle.std.specs.Global.{Vec}
use Rattle.std.specs.List.Sorted.{IsStrictlyIncreasing}
use Rattle.std.proofs.lemmas.Bool.{cases_lt}
use Rattle.std.proofs.lemmas.List.{get_or_append_left, get_or_push, length_push, map-append}
use Rattle.std.proofs.lemmas.List.Elements.{All-push}
use Rattle.vcd_read.specs.CodeNumbers.{code_number}
use Rattle.vcd_places.specs.Codes.{IsUnused, vec_code_number}

-- increasing numbers, and one more that is above all of them, are increasing
IsStrictlyIncreasing-push : (xs : List ℕ) (y : ℕ) → IsStrictlyIncreasing xs → All (λ (n : ℕ). n < y) xs
    → IsStrictlyIncreasing (xs ++ y ∷ [])
IsStrictlyIncreasing-push xs y increasing below k lt =
    elim (cases_lt (k + 1) (length xs)) [
      | inl inside ↦
          let first : get_or (xs ++ y ∷ []) k 0 ≡ get_or xs k 0 =
          get_or_append_left xs (y ∷ []) 0 k (omega (arith, inside)) in
          let second : get_or (xs ++ y ∷ []) (k + 1) 0 ≡ get_or xs (k + 1) 0 =
          get_or_append_left xs (y ∷ []) 0 (k + 1) inside in
          omega (arith, first, second, increasing k inside)
      | inr past ↦
          let last : length xs ≡ k + 1 = omega (arith, lt, length_push xs y, past) in
          let first : get_or (xs ++ y ∷ []) k 0 ≡ get_or xs k 0 =
          get_or_append_left xs (y ∷ []) 0 k (omega (arith, last)) in
          let second : get_or (xs ++ y ∷ []) (k + 1) 0 ≡ y = get_or_push xs y 0 (k + 1) last in
          omega (arith, first, second, below k 0 (omega (arith, last)))
    ]

-- numbers below n are below n + 1
All-below_next : (xs : List ℕ) (n : ℕ) → All (λ (k : ℕ). k < n) xs → All (λ (k : ℕ). k < n + 1) xs
All-below_next xs n below k d lt = omega (arith, below k d lt)

-- codes that `text` doesn't use, in the order of their numbers, all below `number`
pub record AreFound (text : List ℕ) (found : List (Vec ℕ)) (number : ℕ) : Type 0 where
  pub each : All (λ (code : Vec ℕ). IsUnused text (code_number code.items) code.items) found
  pub ascend : IsStrictlyIncreasing (map vec_code_number found)
  pub below : All (λ (n : ℕ). n < number) (map vec_code_number found)

-- if `AreFound` holds for `number`, it holds for the next number where the code of `number` isn't added
pub AreFound-next : (text : List ℕ) (found : List (Vec ℕ)) (number : ℕ) → AreFound text found number
    → AreFound text found (number + 1)
AreFound-next text found number are = record {
  each = are.each;
  ascend = are.ascend;
  below = All-below_next (map vec_code_number found) number are.below;
}

-- if `AreFound` holds for `number`, it holds for the next number where the code of `number`, which `text` doesn't use,
-- is added
pub AreFound-push : (text : List ℕ) (found : List (Vec ℕ)) (number : ℕ) (code : Vec ℕ) → AreFound text found number
    → IsUnused text number code.items → AreFound text (found ++ code ∷ []) (number + 1)
AreFound-push text found number code are one =
    let numbers = map-append vec_code_number found (code ∷ []) in
    let last : code_number code.items ≡ number = one.number_is in
    record {
      each = All-push (λ (v : Vec ℕ). IsUnused text (code_number v.items) v.items) found code are.each
          (subst (λ (n : ℕ). IsUnused text n code.items) (sym last) one);
      ascend = subst (λ (ns : List ℕ). IsStrictlyIncreasing ns) (sym numbers)
          (IsStrictlyIncreasing-push (map vec_code_number found) (vec_code_number code) are.ascend
          (subst (λ (n : ℕ). All (λ (k : ℕ). k < n) (map vec_code_number found)) (sym last) are.below));
      below = subst (λ (ns : List ℕ). All (λ (n : ℕ). n < number + 1) ns) (sym numbers)
          (All-push (λ (n : ℕ). n < number + 1) (map vec_code_number found) (vec_code_number code)
          (All-below_next (map vec_code_number found) number are.below) (omega (arith, last)));
    }
