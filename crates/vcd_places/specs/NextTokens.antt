-- Tokens that are taken from a text, one after the other.
use Rattle.std.specs.Prelude.{◌≡◌, ℕ, ◌+◌, ◌<◌, ◌≤◌, ◌==◌, Bool, true, false, ◌&&◌, ◌||◌, List, [], ◌∷◌, ◌++◌, length}
use Rattle.std.specs.Prelude.{take, drop, nat_le}
use Rattle.std.specs.List.{list_any}
use Rattle.vcd_read.specs.Tokens.{Token, tokens}
use Rattle.vcd_read.specs.Reading.{tokens_after}
use Rattle.vcd_read.specs.Header.{is_end}
use Rattle.vcd_places.specs.Places.{ends_at_boundary, starts_at_boundary}

-- position `at` is a token boundary: the start of `text`, or followed by white space or the end
abbrev pub is_token_boundary : List ℕ → ℕ → Bool
is_token_boundary text at = nat_le at (length text) && (at == 0 || starts_at_boundary (drop at text))

-- the first token after `at` is `bytes`, and it ends at `next`
pub record IsNextToken (text : List ℕ) (at next : ℕ) (bytes : List ℕ) : Type 0 where
  pub line : ℕ
  pub moves : at < next
  pub within : next ≤ length text
  pub detached : starts_at_boundary (drop next text) ≡ true
  pub left : tokens_after 1 text at ≡ record { line = line; bytes = bytes } ∷ tokens_after 1 text next
  pub taken : tokens (take next text) ≡ tokens (take at text) ++ record { line = line; bytes = bytes } ∷ []

-- the token `bytes` begins at `start` and ends at `next`, and no token lies between `at` and `start`
pub record IsTokenAt (text : List ℕ) (at next start : ℕ) (bytes : List ℕ) : Type 0 where
  pub ends : start + length bytes ≡ next
  pub bytes_are : bytes ≡ take (length bytes) (drop start text)
  pub end_detached : starts_at_boundary (drop (length bytes) (drop start text)) ≡ true
  pub start_detached : ends_at_boundary (take start text) ≡ true
  pub same_tokens : tokens (take start text) ≡ tokens (take at text)
  pub nonempty : 0 < length bytes

-- the token is `$end`
abbrev pub ends_section : Token → Bool
ends_section token = is_end token.bytes

-- the tokens from `at` up to and including the next `$end` are taken, and `next` is the place after it
pub record IsTakenToEnd (text : List ℕ) (at next : ℕ) : Type 0 where
  pub words : List Token
  pub last : Token
  pub none : list_any ends_section words ≡ false
  pub ends : is_end last.bytes ≡ true
  pub moves : at < next
  pub within : next ≤ length text
  pub detached : starts_at_boundary (drop next text) ≡ true
  pub left : tokens_after 1 text at ≡ words ++ last ∷ tokens_after 1 text next
  pub taken : tokens (take next text) ≡ tokens (take at text) ++ (words ++ last ∷ [])
