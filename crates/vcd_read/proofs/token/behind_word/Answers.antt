use Rattle.vcd_read.proofs.TokenLemmas.{tokens_after_space}
use Rattle.vcd_read.proofs.token.behind_word.Goals as goal

pub returns-then-end-text-clause-left : goal.returns-then-end-text-clause-left
returns-then-end-text-clause-left c = λ line. tokens_after_space line c.args.text.now c.args.end c.if-end-text.true
    (c.requires.space c.if-end-text.true)
