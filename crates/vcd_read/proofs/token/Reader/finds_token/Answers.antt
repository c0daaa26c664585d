use Rattle.std.proofs.Common.{◌<◌, ◌≤◌, length, sym, ◌∙◌, arith}
use Rattle.std.proofs.lemmas.Bool.Decides.{nat_tests}
use Rattle.vcd_read.proofs.TokenLemmas.{tokens_after-end, tokens_after_space}
use Rattle.vcd_read.proofs.token.Reader.finds_token.Goals as goal

pub loop-self-preserved : goal.loop-self-preserved
loop-self-preserved c =
    let piece = c.args.self.now.text in
    let lt : c.loop-self.self.at < length piece.bytes.now = rw c.loop-self.invariant.text at c.loop-self-test.true in
    record {
      text = c.loop-self.invariant.text;
      low = omega (arith, c.loop-self.invariant.low);
      high = omega (arith, lt);
      left = tokens_after_space piece.line piece.bytes.now c.loop-self.self.at lt (cc) ∙ c.loop-self.invariant.left;
    }

pub returns-clause-end : goal.returns-clause-end
returns-clause-end c = λ none.
    let piece = c.args.self.now.text in
    let past : length piece.bytes.now ≤ c.loop-self.self.at = grind (arith, nat_tests) in
    sym c.loop-self.invariant.left ∙ tokens_after-end piece.line piece.bytes.now c.loop-self.self.at past
