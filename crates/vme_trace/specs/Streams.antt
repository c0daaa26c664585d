-- What a source and a sink specify of themselves, and what a read and a write do to their counts.
use Rattle.std.specs.Prelude.{◌≡◌, ◌<◌, ◌≤◌, ℕ, suc, List, Option, Result, MatchResult}

-- of a source: `left` is the bytes that reads give from here on, or None where that isn't specified; `reads` is how
-- many reads gave bytes, `short_reads` how many of these gave fewer bytes than they had room for, and `failures` how
-- many reads failed
pub record Reading : Type 0 where
  pub left : Option (List ℕ)
  pub reads : ℕ
  pub short_reads : ℕ
  pub failures : ℕ

-- of a sink: `taken` is the bytes that were taken so far, or None where that isn't specified; `failures` is how many
-- writes failed
pub record Writing : Type 0 where
  pub taken : Option (List ℕ)
  pub failures : ℕ

-- each read that gives bytes raises the count by one, and nothing else does
abbrev pub CountsRead : {E : Type 0} → ℕ → ℕ → Result ℕ E → Type 0
CountsRead old new result =
    MatchResult result (λ n. (n ≡ 0 → new ≡ old) × (0 < n → new ≡ suc old)) (λ _. new ≡ old)

-- each read that gives bytes, and fewer than it has room for, raises the count by one, and nothing else does
abbrev pub CountsShortRead : {E : Type 0} → ℕ → ℕ → ℕ → Result ℕ E → Type 0
CountsShortRead room old new result =
    MatchResult result (λ n. (n ≡ 0 → new ≡ old) × (0 < n → n < room → new ≡ suc old) × (room ≤ n → new ≡ old))
    (λ _. new ≡ old)

-- each failure raises the count by one, and nothing else does
abbrev pub CountsFailure : {A E : Type 0} → ℕ → ℕ → Result A E → Type 0
CountsFailure old new result = MatchResult result (λ _. new ≡ old) (λ _. new ≡ suc old)
