use Rattle.std.proofs.Common.{List, ◌∷◌, ◌∙◌, sym, ap, arith}
use Rattle.vcd_read.specs.Tokens.{Token}
use Rattle.vcd_read.specs.Reading.{token_at}
use Rattle.vcd_read.proofs.TokenLemmas.{between, tokens_after-token, is_space-in_word}
use Rattle.vcd_read.proofs.token.Reader.word.Goals as goal

pub returns-clause-token : goal.returns-clause-token
returns-clause-token c =
    let piece = c.args.self.now.text in
    let text = piece.bytes.now in
    let start = c.args.self.now.at in
    let end = c.word_end-end.result in
    tokens_after-token piece.line text start end (omega arith) c.word_end-end.ensures.high
    (is_space-in_word text start end c.requires.word c.word_end-end.ensures.word) c.word_end-end.ensures.end
    ∙ ap (λ (ts : List Token). token_at piece start (between text start end) ∷ ts)
    (sym (c.behind_word-self.ensures.left piece.line))
