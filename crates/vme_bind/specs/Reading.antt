-- The rest of a text that is read in part.
use Rattle.std.specs.Prelude.{ℕ, ◌+◌, List, [], ◌∷◌, count_by}
use Rattle.std.specs.List.{slice_split}
use Rattle.vme_bind.specs.declared.statements.Statement.{Statement}
use Rattle.vme_bind.specs.declared.statements.Statements.{Statements}
use Rattle.vme_bind.specs.Text.{is_feed, words, StatementText, statements_from}

-- the statements of the rest of a text
abbrev pub rest_statements : Statements → List StatementText
rest_statements s = statements_from s.line (slice_split is_feed s.rest.now)

-- the number of the last line of the text
abbrev pub last_line : Statements → ℕ
last_line s = s.line + count_by is_feed s.rest.now

-- a statement as it is read: the words after the first are still one text
abbrev pub as_text : Statement → StatementText
as_text s = record { line = s.line; first = s.first.now; others = words s.others.rest.now }

-- a word before others, where it isn't empty
abbrev pub with_word : List ℕ → List (List ℕ) → List (List ℕ)
with_word [] others = others
with_word (b ∷ word) others = (b ∷ word) ∷ others
