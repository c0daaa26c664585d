use Rattle.std.proofs.Common.{sym, ◌∙◌, arith}
use Rattle.vcd_read.specs.Reading.{line_at, left_at, token_at}
use Rattle.vcd_read.proofs.SectionLemmas.{skip_end, skip_word, skip_unfinished}
use Rattle.vcd_read.proofs.header.skip_section.Goals as goal

pub returns-then-is_end-clause-rest : goal.returns-then-is_end-clause-rest
returns-then-is_end-clause-rest c =
    let text = c.args.reader.now.text in
    let t = token_at text c.in-Some.token.at c.in-Some.token.bytes.now in
    c.loop-token.invariant.so_far
    ∙ skip_end (line_at text c.args.first) t (left_at text c.loop-token.reader.at) (left_at text c.next.new.self.at)
    (rw c.loop-token.invariant.same at c.in-Some.ensures.token) (sym c.if-is_end.ensures)

pub loop-token-preserved : goal.loop-token-preserved
loop-token-preserved c =
    let text = c.args.reader.now.text in
    let t = token_at text c.in-Some.token.at c.in-Some.token.bytes.now in
    record {
      same = c.in-Some.ensures.text ∙ c.loop-token.invariant.same;
      moves = omega (arith, c.in-Some.ensures.moves, c.loop-token.invariant.moves);
      so_far =
          c.loop-token.invariant.so_far
          ∙ skip_word (line_at text c.args.first) t (left_at text c.loop-token.reader.at)
          (left_at text c.next.new.self.at) (rw c.loop-token.invariant.same at c.in-Some.ensures.token)
          (sym c.if-is_end.ensures);
    }

pub returns-clause-rest : goal.returns-clause-rest
returns-clause-rest c =
    let text = c.args.reader.now.text in
    rw (c.fault.ensures, c.in_default.ensures.text, c.loop-token.invariant.same) (
    c.loop-token.invariant.so_far
    ∙ skip_unfinished (line_at text c.args.first) (left_at text c.loop-token.reader.at)
    (rw c.loop-token.invariant.same at c.in_default.ensures.token))
