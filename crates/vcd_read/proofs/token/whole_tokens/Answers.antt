use Rattle.std.proofs.Common.{◌≡◌, ◌+◌, ◌-◌, ◌∙◌, ℕ, take, subst, sym, arith}
use Rattle.vcd_read.specs.Reading.{EndsBetweenTokens}
use Rattle.vcd_read.proofs.PieceLemmas.{tokens_from-split_empty, tokens_from-split_space}
use Rattle.vcd_read.proofs.token.whole_tokens.Goals as goal

pub returns-then-is_space-clause-apart : goal.returns-then-is_space-clause-apart
returns-then-is_space-clause-apart c =
    let text = c.args.text.now in
    let end = c.loop-end.end in
    let e : (end - 1) + 1 ≡ end = omega arith in
    subst (λ (n : ℕ). EndsBetweenTokens (take n text)) e
    (λ line rest. tokens_from-split_space text rest (end - 1) line (omega arith)
    (sym c.is_space.ensures ∙ c.if-is_space.true))

pub returns-clause-apart : goal.returns-clause-apart
returns-clause-apart c = λ line rest. tokens_from-split_empty c.args.text.now rest line
