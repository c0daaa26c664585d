-- The results of calls, each at a place of its own.
use Rattle.std.specs.Prelude.{◌≡◌, ℕ, All, List, Option, Some, slice_get}

-- each pair is a place and the result of the call with that place
abbrev pub ArePairedResults : {X : Type 0} → (ℕ → Option X → Type 0) → List (ℕ × X) → Type 0
ArePairedResults {X} gives all = All (λ (one : ℕ × X). gives one.0 (Some one.1)) all

-- each place is empty, or has the result of the call with that place
abbrev pub AreResultsByPlace : {X : Type 0} → (ℕ → Option X → Type 0) → List (Option X) → Type 0
AreResultsByPlace {X} gives all = (place : ℕ) (x : X) → slice_get all place ≡ Some (Some x) → gives place (Some x)
