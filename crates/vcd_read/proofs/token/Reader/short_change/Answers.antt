use Rattle.std.proofs.Common.{List, ◌∷◌, ◌++◌, ◌∙◌, ◌+◌, ◌<◌, length, get_or, sym, ap, arith}
use Rattle.vcd_read.specs.Tokens.{Token}
use Rattle.vcd_read.specs.Reading.{token_at}
use Rattle.vcd_read.proofs.TokenLemmas.{is_space_above_32, between, tokens_after-change, shape_of-change}
use Rattle.vcd_read.proofs.TokenLemmas.{tokens_after_space}
use Rattle.vcd_read.proofs.token.Reader.short_change.Goals as goal

pub returns-clause-shape : goal.returns-clause-shape
returns-clause-shape c =
    let piece = c.args.self.now.text in
    let text = piece.bytes.now in
    let at = c.args.self.now.at in
    let lt : at + 1 < length text = omega arith in
    let last : at + 2 < length text = omega arith in
    let code : 32 < get_or text (at + 1) 0 = omega arith in
    let bytes = between text at (at + 1) ++ between text (at + 1) (at + 2) in (
      bytes,
      sym (shape_of-change text at lt (cc)),
      tokens_after-change piece.line text at lt (cc) (is_space_above_32 (get_or text (at + 1) 0) code) (λ _. cc)
          ∙ ap (λ (ts : List Token). token_at piece at bytes ∷ ts)
          (sym (tokens_after_space piece.line text (at + 2) last (cc))),
    )
