-- How much of a text was written.
use Rattle.std.specs.Prelude.{◌≡◌, ℕ, List, ◌++◌, Option}
use Rattle.std.specs.Io.KnownBytes.{Appends}

-- a prefix of the text was written, all of it or less
abbrev pub AppendsFront : Option (List ℕ) → Option (List ℕ) → List ℕ → Type 0
AppendsFront old new text = (front rest : List ℕ) × (text ≡ front ++ rest) × Appends old new front

-- of the bytes `held`, a prefix was written, and `left` is the rest
abbrev pub Moves : Option (List ℕ) → Option (List ℕ) → List ℕ → List ℕ → Type 0
Moves old new held left = (front : List ℕ) × (held ≡ front ++ left) × Appends old new front
