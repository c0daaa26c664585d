-- Consumers of an input as it is read.
use Rattle.std.specs.Prelude.{◌≡◌, ℕ, List, ◌++◌}

-- `bytes` were taken: whatever `rest` follows, `after` gives of `rest` alone what `before` gives of `bytes` and `rest`
abbrev pub ContinuesAs : {O : Type 0} → (List ℕ → O) → (List ℕ → O) → List ℕ → Type 0
ContinuesAs before after bytes = (rest : List ℕ) → before (bytes ++ rest) ≡ after rest
