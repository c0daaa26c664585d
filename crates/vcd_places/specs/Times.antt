-- How far the times of a body are taken.
use Rattle.std.specs.Prelude.{◌≡◌, ◌⊎◌, ◌==◌, ℕ, ◌≤◌, Bool, true, List, [], ◌∷◌, length, take, drop, Some}
use Rattle.std.specs.List.{list_any}
use Rattle.vcd_read.specs.Tokens.{Token}
use Rattle.vcd_read.specs.Reading.{tokens_after}
use Rattle.vcd_read.specs.Body.{body_from, ready}
use Rattle.vcd_places.specs.Places.{AreWholeItems, body_in, item_times, starts_at_boundary, times_of_body}

-- a text, and a place of it
pub record TimesLeft : Type 0 where
  pub text : List ℕ
  pub at : ℕ

-- the times below 2^64 of the items from `at` on
abbrev pub times_left : TimesLeft → List ℕ
times_left s = item_times (body_from ready (tokens_after 1 s.text s.at))

-- the place is between two items of the text's body
pub record IsBetweenItems (text : List ℕ) (at : ℕ) : Type 0 where
  pub within : at ≤ length text
  pub detached : starts_at_boundary (drop at text) ≡ true
  pub body : List Token
  pub ended : body_in (take at text) ≡ Some body
  pub whole : AreWholeItems body

-- each of the numbers is at least the one before it, and the first is at least `least`
abbrev pub IsAscendingFrom : ℕ → List ℕ → Type 0
IsAscendingFrom least [] = Unit {0}
IsAscendingFrom least (x ∷ xs) = (least ≤ x) × IsAscendingFrom x xs

-- the number is one of these
abbrev pub is_among : ℕ → List ℕ → Bool
is_among n xs = list_any (λ (x : ℕ). x == n) xs

-- `time` is 0, at which a body begins, or among the times of the body of `text`
abbrev pub IsReached : List ℕ → ℕ → Type 0
IsReached text time = (time ≡ 0) ⊎ (is_among time (times_of_body text) ≡ true)
