use Rattle.std.proofs.Common.{◌≡◌, List, ◌∷◌, ◌∙◌, ◌+◌, ◌-◌, take, drop, refl, sym, ap, arith}
use Rattle.std.proofs.lemmas.List.{length-drop, length-take-le}
use Rattle.vcd_read.specs.Tokens.{Token}
use Rattle.vcd_read.specs.Reading.{token_at}
use Rattle.vcd_read.proofs.NumberLemmas.{time_of-fits}
use Rattle.vcd_read.proofs.TokenLemmas.{between, tokens_after-time}
use Rattle.vcd_read.proofs.token.Reader.short_time.Goals as goal

pub returns-clause-time : goal.returns-clause-time
returns-clause-time c =
    let piece = c.args.self.now.text in
    let text = piece.bytes.now in
    let at = c.args.self.now.at in
    let count = c.leading_number-number.result.count in
    let n : at + 1 + count - (at + 1) ≡ count = omega arith in (
      between text (at + 1) (at + 1 + count),
      rw n (time_of-fits (take count (drop (at + 1) text)) c.leading_number-number.result.number
          (omega (
            arith,
            length-take-le count (drop (at + 1) text)
                (omega (arith, c.leading_number-number.ensures.within, length-drop (at + 1) text)),
            c.if-count-eq0.false,
          ))
          c.leading_number-number.ensures.digits (c.leading_number-number.ensures.number (omega arith))
          (omega arith)),
      (
        35 ∷ between text (at + 1) (at + 1 + count),
        refl,
        tokens_after-time piece.line text at count c.requires c.if-self-ne35.false
            (omega (arith, c.leading_number-number.ensures.within, length-drop (at + 1) text))
            c.leading_number-number.ensures.digits (c.ends_word.ensures.ends (cc))
            ∙ ap (λ (ts : List Token). token_at piece at (35 ∷ between text (at + 1) (at + 1 + count)) ∷ ts)
            (sym (c.behind_word-self.ensures.left piece.line)),
      ),
    )
