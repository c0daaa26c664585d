use Rattle.vcd_places.specs.Codes.{is_token}
use Rattle.vcd_places.proofs.NextTokenLemmas.{is_token_boundary-start, list_any-start, list_any-all_tokens}
use Rattle.vcd_places.proofs.codes.lacks_token.Goals as goal

pub loop-token-init : goal.loop-token-init
loop-token-init c = record {
  same = c.new-reader.ensures.text;
  boundary = rw c.new-reader.ensures.at (is_token_boundary-start c.args.text.now);
  lacks = rw c.new-reader.ensures.at (list_any-start (is_token c.args.word.now) c.args.text.now);
}

pub returns : goal.returns
returns c = λ _.
    list_any-all_tokens (is_token c.args.word.now) c.args.text.now c.loop-token.reader.at
    c.loop-token.invariant.boundary
    c.loop-token.invariant.lacks (rw c.loop-token.invariant.same at c.in_default.ensures.none)
