-- What a closure tests, over a range of instants.
use Rattle.std.specs.Prelude.{◌≡◌, ℕ, ◌<◌, ◌≤◌, Bool}

-- the closure may be called with each number of the range: `pre` is its precondition
abbrev pub MayAsk : (ℕ → Type 0) → ℕ → ℕ → Type 0
MayAsk pre first end = (n : ℕ) → first ≤ n → n < end → pre n

-- what the closure answers for a number `n` of the range is `p n`: `post` is its postcondition
abbrev pub Tests : (ℕ → Bool → Type 0) → ℕ → ℕ → (ℕ → Bool) → Type 0
Tests post first end p = (n : ℕ) (answer : Bool) → first ≤ n → n < end → post n answer → answer ≡ p n
