-- Codes that are no tokens of a text.
use Rattle.std.specs.Prelude.{◌≡◌, ℕ, ◌<◌, Bool, true, false, List, length, bytes_eq}
use Rattle.std.specs.List.{list_any}
use Rattle.std.specs.Global.{Vec}
use Rattle.vcd_read.specs.CodeNumbers.{code_number}
use Rattle.vcd_read.specs.Header.{is_code, is_end}
use Rattle.vcd_read.specs.Tokens.{Token, tokens}

-- the token has these bytes
abbrev pub is_token : List ℕ → Token → Bool
is_token word t = bytes_eq t.bytes word

-- the number of a code in memory
abbrev pub vec_code_number : Vec ℕ → ℕ
vec_code_number code = code_number code.items

-- `code` has this number, is one that a variable may have, and is neither `$end` nor a token of `text`
pub record IsUnused (text : List ℕ) (number : ℕ) (code : List ℕ) : Type 0 where
  pub number_is : code_number code ≡ number
  pub some : 0 < length code
  pub is_one : is_code code ≡ true
  pub no_end : is_end code ≡ false
  pub unused : list_any (is_token code) (tokens text) ≡ false
