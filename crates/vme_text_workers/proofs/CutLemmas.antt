-- A text that is cut into pieces: its tokens are those of the pieces, one piece after the other.
use Rattle.std.proofs.Common.{◌≡◌, ℕ, List, [], ◌∷◌, ◌++◌, refl, sym, ap, ◌∙◌, append_assoc, append-nil}
use Rattle.vcd_read.specs.Reading.{line_behind}
use Rattle.vcd_read.specs.Tokens.{Token, tokens_from}
use Rattle.vme_text_workers.specs.Cuts.{ArePiecesOf, IsCutIn, line_after_pieces, tokens_of}
use Rattle.vme_text_workers.specs.declared.cut.DumpPiece.{DumpPiece}

-- the text is cut into the pieces so far, and `left` is what is left of it
pub record IsCutSoFar (text : List ℕ) (pieces : List DumpPiece) (left : List ℕ) : Type 0 where
  pub tokens : (line : ℕ) → tokens_from line text
      ≡ tokens_of line pieces ++ tokens_from (line_after_pieces line pieces) left
  pub lines : (line : ℕ) → line_behind line text ≡ line_behind (line_after_pieces line pieces) left

-- the tokens of some pieces and one more are theirs and its tokens
tokens_of-append : (line : ℕ) (pieces : List DumpPiece) (piece : DumpPiece) → tokens_of line (pieces ++ piece ∷ [])
    ≡ tokens_of line pieces ++ tokens_from (line_after_pieces line pieces) piece.bytes.now
tokens_of-append line [] piece = append-nil (tokens_from line piece.bytes.now)
tokens_of-append line (first ∷ pieces) piece =
    let front = tokens_from line first.bytes.now in
    let line2 = line_behind line first.bytes.now in
    ap (λ (ts : List Token). front ++ ts) (tokens_of-append line2 pieces piece)
    ∙ sym (append_assoc front (tokens_of line2 pieces) (tokens_from (line_after_pieces line2 pieces) piece.bytes.now))

-- the line after some pieces and one more is that after the one more, which begins on the line after the others
line_after_pieces-append : (line : ℕ) (pieces : List DumpPiece) (piece : DumpPiece)
    → line_after_pieces line (pieces ++ piece ∷ [])
    ≡ line_behind (line_after_pieces line pieces) piece.bytes.now
line_after_pieces-append line [] piece = refl
line_after_pieces-append line (first ∷ pieces) piece =
    line_after_pieces-append (line_behind line first.bytes.now) pieces piece

module _ (text : List ℕ) (pieces : List DumpPiece) (piece : DumpPiece) where
  -- `IsCutSoFar` still holds after one more piece is cut off
  pub IsCutSoFar-next : (left rest : List ℕ) → IsCutSoFar text pieces left → IsCutIn left piece.bytes.now rest
      → IsCutSoFar text (pieces ++ piece ∷ []) rest
  IsCutSoFar-next left rest so cut = record {
    tokens = λ line.
        let at : ℕ = line_after_pieces line pieces in
        so.tokens line ∙ ap (λ (ts : List Token). tokens_of line pieces ++ ts) (cut.tokens at)
        ∙ sym (append_assoc (tokens_of line pieces) (tokens_from at piece.bytes.now)
        (tokens_from (line_behind at piece.bytes.now) rest))
        ∙ ap (λ (ts : List Token). ts ++ tokens_from (line_behind at piece.bytes.now) rest)
        (sym (tokens_of-append line pieces piece))
        ∙ ap (λ (l : ℕ). tokens_of line (pieces ++ piece ∷ []) ++ tokens_from l rest)
        (sym (line_after_pieces-append line pieces piece));
    lines = λ line.
        so.lines line ∙ cut.lines (line_after_pieces line pieces) ∙ ap (λ (l : ℕ). line_behind l rest)
        (sym (line_after_pieces-append line pieces piece));
  }

  -- if what is left of the text is the last piece, all pieces are those of the text
  pub ArePiecesOf-last : IsCutSoFar text pieces piece.bytes.now → ArePiecesOf text (pieces ++ piece ∷ [])
  ArePiecesOf-last so = record {
    tokens = λ line. so.tokens line ∙ sym (tokens_of-append line pieces piece);
    lines = λ line. so.lines line ∙ sym (line_after_pieces-append line pieces piece);
  }
