use Rattle.std.proofs.Common.{◌<◌, length, arith}
use Rattle.vcd_places.proofs.NextTokenLemmas.{is_token_boundary-detached, detached, IsNextToken-word, IsTokenAt-word}
use Rattle.vcd_places.proofs.NextTokenLemmas.{tokens_after-only_spaces, lt-word}
use Rattle.vcd_places.proofs.token_reader.TokenReader.next.Goals as goal

pub returns-then-start-self-clause-none : goal.returns-then-start-self-clause-none
returns-then-start-self-clause-none c =
    tokens_after-only_spaces c.args.self.now.text.now c.args.self.now.at c.word_start-start.result
    c.word_start-start.ensures.low
    c.if-start-self.true c.word_start-start.ensures.spaces

pub invariant_of-self : goal.invariant_of-self
invariant_of-self c =
    let text = c.args.self.now.text.now in
    let start = c.word_start-start.result in
    let end = c.word_end-end.result in
    let lt : start < length text = omega (arith, c.if-start-self.false, c.word_start-start.ensures.high) in
    let some = lt-word text start end lt c.word_end-end.ensures.low (c.word_start-start.ensures.word lt)
    c.word_end-end.ensures.end in
    record {
      boundary = is_token_boundary-detached text end c.word_end-end.ensures.high
          (detached text c.args.self.now.at start end c.args.self.now.boundary c.word_start-start.ensures.low some
          c.word_end-end.ensures.high c.word_start-start.ensures.spaces c.word_end-end.ensures.word
          c.word_end-end.ensures.end);
    }

pub returns-clause-token : goal.returns-clause-token
returns-clause-token c =
    let text = c.args.self.now.text.now in
    let start = c.word_start-start.result in
    let end = c.word_end-end.result in
    let lt : start < length text = omega (arith, c.if-start-self.false, c.word_start-start.ensures.high) in
    let some = lt-word text start end lt c.word_end-end.ensures.low (c.word_start-start.ensures.word lt)
    c.word_end-end.ensures.end in
    IsNextToken-word text c.args.self.now.at start end c.args.self.now.boundary c.word_start-start.ensures.low some
    c.word_end-end.ensures.high c.word_start-start.ensures.spaces c.word_end-end.ensures.word c.word_end-end.ensures.end

pub returns-clause-place : goal.returns-clause-place
returns-clause-place c =
    let text = c.args.self.now.text.now in
    let start = c.word_start-start.result in
    let end = c.word_end-end.result in
    let lt : start < length text = omega (arith, c.if-start-self.false, c.word_start-start.ensures.high) in
    let some = lt-word text start end lt c.word_end-end.ensures.low (c.word_start-start.ensures.word lt)
    c.word_end-end.ensures.end in
    IsTokenAt-word text c.args.self.now.at start end c.args.self.now.boundary c.word_start-start.ensures.low some
    c.word_end-end.ensures.high c.word_start-start.ensures.spaces c.word_end-end.ensures.word c.word_end-end.ensures.end
