-- A binding text as its statements: the words of each line that is neither blank nor a comment.
use Rattle.std.specs.Prelude.{ℕ, ◌+◌, ◌-◌, Bool, ◌||◌, not, ◌==◌, if◌then◌else◌, List, [], ◌∷◌, ◌++◌, length, take}
use Rattle.std.specs.Prelude.{get_or, filter, count_by}
use Rattle.std.specs.List.{slice_split}
use Rattle.vcd_read.specs.Numbers.{is_empty}

-- a line feed
abbrev pub is_feed : ℕ → Bool
is_feed b = b == 10

-- a space or a tab
abbrev pub is_blank : ℕ → Bool
is_blank b = b == 32 || b == 9

-- the longest runs of bytes without a blank
abbrev pub words : List ℕ → List (List ℕ)
words line = filter (λ word. not (is_empty word)) (slice_split is_blank line)

-- a line that a line feed ends, without a carriage return at its end
abbrev pub without_return : List ℕ → List ℕ
without_return line = if get_or line (length line - 1) 0 == 13 then take (length line - 1) line else line

-- a statement: the number of its line, its first word, and the other words
pub record StatementText : Type 0 where
  pub line : ℕ
  pub first : List ℕ
  pub others : List (List ℕ)

-- the statement of a line with these words: none where there are no words, or the first begins with #
abbrev pub statement_on : ℕ → List (List ℕ) → List StatementText
statement_on line [] = []
statement_on line (first ∷ others) = if get_or first 0 0 == 35 then []
    else record { line = line; first = first; others = others } ∷ []

-- the statements in these parts of a text, which line feeds separate; the first part is the line number `line`
unfoldable pub statements_from : ℕ → List (List ℕ) → List StatementText
statements_from line [] = []
statements_from line (part ∷ []) = statement_on line (words part)
statements_from line (part ∷ next ∷ parts) = statement_on line (words (without_return part))
    ++ statements_from (line + 1) (next ∷ parts)

-- the statements of `text`, whose first line has the number 1
abbrev pub statements_of : List ℕ → List StatementText
statements_of text = statements_from 1 (slice_split is_feed text)

-- the number of the last line of `text`
abbrev pub end_line : List ℕ → ℕ
end_line text = 1 + count_by is_feed text
