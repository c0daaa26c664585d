-- A text that is read in two parts, or some of whose pieces were taken: the outcome of what is left is that of the
-- whole.
use Rattle.std.proofs.Common.{◌≡◌, ℕ, List, [], ◌++◌, Result, Ok, Err, sym, ap, ◌∙◌}
use Rattle.std.specs.Prelude.{IfOk}
use Rattle.vcd_read.specs.Reading.{line_behind}
use Rattle.vcd_read.specs.Tokens.{Token, tokens_from}
use Rattle.vme_bind.specs.TextPieces.{TextContinuesAs, TextReached, outcome_ahead}
use Rattle.vme_bind.specs.declared.fault.CaptureFault.{CaptureFault}
use Rattle.vme_bind.proofs.TextPieceLemmas.{TextContinuesAs-same}
use Rattle.vme_text_workers.specs.Cuts.{ArePiecesOf, IsCutIn, tokens_of}
use Rattle.vme_text_workers.specs.SpeculativeChunks.{AreTaken}
use Rattle.vme_text_workers.specs.declared.cut.DumpPiece.{DumpPiece}
use Rattle.vme_text_workers.proofs.JoinLemmas.{outcome_ahead-append}

module _ (whole front after_front : List ℕ) (cut : IsCutIn whole front after_front) (t u : TextReached)
    (line : u.body.line
    ≡ line_behind t.body.line front)
    (read : (more : List Token) → outcome_ahead t (tokens_from t.body.line front) more ≡ outcome_ahead u [] more) where
  -- once the front is read, the outcome of the whole is that of the rest
  outcome_ahead-front_read : (more : List Token) → outcome_ahead t (tokens_from t.body.line whole) more
      ≡ outcome_ahead u
      (tokens_from u.body.line after_front) more
  outcome_ahead-front_read more =
      let at : ℕ = line_behind t.body.line front in
      ap (λ (ts : List Token). outcome_ahead t ts more) (cut.tokens t.body.line)
      ∙ outcome_ahead-append t (tokens_from t.body.line front) (tokens_from at after_front) more
      ∙ read (tokens_from at after_front ++ more)
      ∙ ap (λ (l : ℕ). outcome_ahead u (tokens_from l after_front) more) (sym line)

  -- a result that agrees with the outcome of the rest agrees with that of the whole
  pub TextContinuesAs-both : {X : Type 0} (reach : X → TextReached) (r : Result X CaptureFault)
      → TextContinuesAs (λ x. outcome_ahead (reach x) []) r (outcome_ahead u (tokens_from u.body.line after_front))
      → TextContinuesAs (λ x. outcome_ahead (reach x) []) r (outcome_ahead t (tokens_from t.body.line whole))
  TextContinuesAs-both reach r leads =
      TextContinuesAs-same (λ x. outcome_ahead (reach x) []) r (outcome_ahead t (tokens_from t.body.line whole))
      (outcome_ahead u (tokens_from u.body.line after_front)) outcome_ahead-front_read leads

  -- the line after the rest is that after the whole
  pub line_behind-both : {X : Type 0} (reach : X → TextReached) (r : Result X CaptureFault)
      → IfOk r (λ x. (reach x).body.line ≡ line_behind u.body.line after_front) → IfOk r (λ x. (reach x).body.line
      ≡ line_behind t.body.line whole)
  line_behind-both reach (Ok x) h = h ∙ ap (λ (l : ℕ). line_behind l after_front) line ∙ sym (cut.lines t.body.line)
  line_behind-both reach (Err fault) h = h

-- a result that agrees with the outcome of the pieces in `left` agrees with that of the whole text
pub TextContinuesAs-rest : {X : Type 0} (reach : X → TextReached) (r : Result X CaptureFault) (text : List ℕ)
    (pieces left : List DumpPiece) (t before after : TextReached) → before ≡ t → ArePiecesOf text pieces
    → AreTaken pieces before after left
    → TextContinuesAs (λ x. outcome_ahead (reach x) []) r (outcome_ahead after (tokens_of after.body.line left))
    → TextContinuesAs (λ x. outcome_ahead (reach x) []) r (outcome_ahead t (tokens_from t.body.line text))
TextContinuesAs-rest reach r text pieces left t before after is cut taken leads =
    TextContinuesAs-same (λ x. outcome_ahead (reach x) []) r (outcome_ahead t (tokens_from t.body.line text))
    (outcome_ahead after (tokens_of after.body.line left))
    (λ more. ap (λ (ts : List Token). outcome_ahead t ts more) (cut.tokens t.body.line)
    ∙ ap (λ (u : TextReached). outcome_ahead u (tokens_of u.body.line pieces) more) (sym is)
    ∙ taken.leads more)
    leads
