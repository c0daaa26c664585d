-- A text that is cut into pieces.
use Rattle.std.specs.Prelude.{◌≡◌, ℕ, List, [], ◌∷◌, ◌++◌}
use Rattle.vcd_read.specs.Reading.{line_behind}
use Rattle.vcd_read.specs.Tokens.{Token, tokens_from}
use Rattle.vme_text_workers.specs.declared.cut.DumpPiece.{DumpPiece}

-- the text is cut in two at a token boundary
pub record IsCutIn (text front rest : List ℕ) : Type 0 where
  pub tokens : (line : ℕ) → tokens_from line text ≡ tokens_from line front ++ tokens_from (line_behind line front) rest
  pub lines : (line : ℕ) → line_behind line text ≡ line_behind (line_behind line front) rest

-- the tokens of the pieces, one piece after the other; the first begins on line `line`
abbrev pub tokens_of : ℕ → List DumpPiece → List Token
tokens_of line [] = []
tokens_of line (piece ∷ pieces) =
    tokens_from line piece.bytes.now ++ tokens_of (line_behind line piece.bytes.now) pieces

-- the line after the pieces, where the first begins on line `line`
abbrev pub line_after_pieces : ℕ → List DumpPiece → ℕ
line_after_pieces line [] = line
line_after_pieces line (piece ∷ pieces) = line_after_pieces (line_behind line piece.bytes.now) pieces

-- the text is cut into the pieces at token boundaries
pub record ArePiecesOf (text : List ℕ) (pieces : List DumpPiece) : Type 0 where
  pub tokens : (line : ℕ) → tokens_from line text ≡ tokens_of line pieces
  pub lines : (line : ℕ) → line_behind line text ≡ line_after_pieces line pieces
