use Rattle.std.proofs.Common.{List, ◌∷◌, ◌∙◌, sym, ap, arith}
use Rattle.vcd_read.specs.Tokens.{Token}
use Rattle.vcd_read.specs.Reading.{token_at}
use Rattle.vcd_read.proofs.TokenLemmas.{between, tokens_after-vector, shape_of-vector}
use Rattle.vcd_read.proofs.token.Reader.vector_digits.Goals as goal

pub returns-clause-shape : goal.returns-clause-shape
returns-clause-shape c =
    let piece = c.args.self.now.text in
    let text = piece.bytes.now in
    let at = c.args.self.now.at in
    let end = c.bits_end-end.result in (
      between text at end,
      sym (shape_of-vector text at end (cc) (omega arith) c.bits_end-end.ensures.high c.bits_end-end.ensures.bits),
      tokens_after-vector piece.line text at end (cc) (omega arith) c.bits_end-end.ensures.high
          c.bits_end-end.ensures.bits
          (c.ends_word.ensures.ends (cc))
          ∙ ap (λ (ts : List Token). token_at piece at (between text at end) ∷ ts)
          (sym (c.behind_word-self.ensures.left piece.line)),
    )
