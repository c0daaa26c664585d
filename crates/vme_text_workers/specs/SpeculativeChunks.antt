-- Pieces that are read ahead of those before them, and joined in order as far as they fit.
use Rattle.std.specs.Prelude.{◌≡◌, ℕ, All, List, [], ◌∷◌, Option, None, Some, IfSome, length, slice_get}
use Rattle.vme_trace.specs.Levels.{Levels}
use Rattle.vme_trace.specs.LineNumbers.{line_count}
use Rattle.vme_trace.specs.Trace.{Trace}
use Rattle.vcd_read.specs.Header.{Net}
use Rattle.vcd_read.specs.Tokens.{Token}
use Rattle.vme_bind.specs.TextPieces.{TextReached, outcome_ahead}
use Rattle.vme_bind.specs.SpeculativeReading.{IsReadSpeculatively, ReadSpeculatively, SpeculativeReached}
use Rattle.vme_bind.specs.declared.net_lines.NetLines.{NetLines}
use Rattle.vme_text_workers.specs.Cuts.{line_after_pieces, tokens_of}
use Rattle.vme_text_workers.specs.declared.cut.DumpPiece.{DumpPiece}

-- `bytes` were read ahead, and their steps were judged: `recorded` has these steps, and opens with the levels that they
-- were read from
pub record IsJudgedAhead
    (nets : List Net) (line_bits : NetLines) (bytes : List ℕ) (recorded : Trace)
    (ahead : ReadSpeculatively) : Type 0 where
  pub opening : recorded.opening ≡ ahead.from
  pub read : IsReadSpeculatively nets line_bits bytes recorded ahead

-- each of `all` is `None`, or the piece at its place as it was read ahead
abbrev pub AreAhead : List Net → NetLines → List DumpPiece → List (Option (ReadSpeculatively × Trace)) → Type 0
AreAhead nets line_bits [] all = Unit {0}
AreAhead nets line_bits (piece ∷ pieces) [] = Unit {0}
AreAhead nets line_bits (piece ∷ pieces) (one ∷ all) =
    IfSome one (λ a. IsJudgedAhead nets line_bits piece.bytes.now a.1 a.0) × AreAhead nets line_bits pieces all

-- `one` is `None`, or the piece at `place` as it was read ahead
abbrev pub IsAheadAt : SpeculativeReached → List DumpPiece → ℕ → Option (ReadSpeculatively × Trace) → Type 0
IsAheadAt speculative pieces place one =
    (piece : DumpPiece) → slice_get pieces place ≡ Some piece
    → IfSome one (λ a. IsJudgedAhead speculative.body.nets speculative.line_bits piece.bytes.now a.1 a.0)

-- the pieces before `left` were taken: from `after`, those in `left` have the outcome that all pieces have from
-- `before`
pub record AreTaken (pieces : List DumpPiece) (before after : TextReached) (left : List DumpPiece) : Type 0 where
  pub lines : line_after_pieces before.body.line pieces ≡ line_after_pieces after.body.line left
  pub leads : (more : List Token)
      → outcome_ahead before (tokens_of before.body.line pieces) more
      ≡ outcome_ahead after (tokens_of after.body.line left) more

-- each is `None`, or has the levels of all lines
abbrev pub AreWhole : List (Option Levels) → Type 0
AreWhole all = All (λ one. IfSome one (λ v. length v.levels ≡ line_count)) all

-- `next` is the first of the list, or `None` if the list is empty, and `left` are the others
abbrev pub IsNextOf : {X : Type 0} → List (Option X) → List (Option X) → Option X → Type 0
IsNextOf [] left next = (left ≡ []) × (next ≡ None)
IsNextOf (one ∷ all) left next = (left ≡ all) × (next ≡ one)
