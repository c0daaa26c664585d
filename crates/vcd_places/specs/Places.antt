-- The places of a text at which text can be inserted: before the end of its definitions, and between the items of
-- its body. A place is the count of bytes before it.
use Rattle.std.specs.Prelude.{◌≡◌, ℕ, ◌≤◌, Bool, true, false, ◌&&◌, not, List, [], ◌∷◌, ◌++◌, length, take, drop, codes}
use Rattle.std.specs.Prelude.{bytes_eq, Option, Some, None, is_some, unwrap_or}
use Rattle.std.specs.Result.{result_ok}
use Rattle.std.specs.List.{cons_option, last_or, list_any}
use Rattle.std.specs.Option.{option_map_or}
use Rattle.vcd_read.specs.Tokens.{Token, is_space, tokens}
use Rattle.vcd_read.specs.Numbers.{time_of}
use Rattle.vcd_read.specs.Header.{HeaderItem, whole, unfinished, stray, between, header_from}
use Rattle.vcd_read.specs.Body.{BodyItem, time_item, ready}
use Rattle.vcd_read.specs.Body.{body_from}
use Rattle.vcd_read.specs.Meaning.{last_time}

-- the text is empty or begins with white space: no token before it continues into it
abbrev pub starts_at_boundary : List ℕ → Bool
starts_at_boundary [] = true
starts_at_boundary (b ∷ rest) = is_space b

-- the text is empty or ends with white space: none of its tokens continues after it
abbrev pub ends_at_boundary : List ℕ → Bool
ends_at_boundary text = option_map_or is_space (last_or None text) true

-- ---- the definitions

-- the tokens after the definitions of `text`, if the definitions end in it
abbrev pub body_in : List ℕ → Option (List Token)
body_in text = (header_from between (tokens text)).body

-- a section of the definitions without its end
abbrev pub is_unfinished : HeaderItem → Bool
is_unfinished (whole section) = false
is_unfinished (unfinished line) = true
is_unfinished (stray line) = false

-- the definitions don't end in `text`, and each of its sections does
abbrev pub is_between_sections : List ℕ → Bool
is_between_sections text =
    let header = header_from between (tokens text) in
    not (is_some header.body) && not (list_any is_unfinished header.items)

-- a text begins with this token
abbrev pub begins_with_token : List ℕ → List ℕ → Bool
begins_with_token word text = bytes_eq (take (length word) text) word && starts_at_boundary (drop (length word) text)

-- the section that ends the definitions of `text` begins at `place`
abbrev pub ends_definitions_at : List ℕ → ℕ → Bool
ends_definitions_at text place =
    ends_at_boundary (take place text) && is_between_sections (take place text)
    && begins_with_token (codes "$enddefinitions") (drop place text)

-- ---- the body

-- the time of a time item, if it is below 2^64
abbrev pub item_time : BodyItem → Option ℕ
item_time (time_item line digits) = result_ok (time_of digits)
item_time item = None

-- the times below 2^64 of the time items, in their order
unfoldable pub item_times : List BodyItem → List ℕ
item_times [] = []
item_times (item ∷ items) = cons_option (item_time item) (item_times items)

-- the times below 2^64 of the body of `text`, in their order
abbrev pub times_of_body : List ℕ → List ℕ
times_of_body text = item_times (body_from ready (unwrap_or (body_in text) []))

-- the tokens `body` end with an item, or there are none: what follows is read as if it were alone
abbrev pub AreWholeItems : List Token → Type 0
AreWholeItems body = (more : List Token) → body_from ready (body ++ more) ≡ body_from ready body ++ body_from ready more

-- `place` is between two items of the body of `text`, and `time` is the current time there
pub record IsAtTime (text : List ℕ) (time place : ℕ) : Type 0 where
  pub within : place ≤ length text
  pub detached : starts_at_boundary (drop place text) ≡ true
  pub body : List Token
  pub ended : body_in (take place text) ≡ Some body
  pub whole : AreWholeItems body
  pub time_is : last_time 0 (body_from ready body) ≡ time
