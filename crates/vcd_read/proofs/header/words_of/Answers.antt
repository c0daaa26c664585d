use Rattle.std.proofs.Common.{sym, ap, ◌∙◌, arith, List, ℕ}
use Rattle.vcd_read.specs.Reading.{line_at, left_at, token_at}
use Rattle.vcd_read.specs.Scopes.{texts}
use Rattle.vcd_read.specs.Sections.{section_from}
use Rattle.vcd_read.proofs.SectionLemmas.{with_words_before, words_end, words_word, words_unfinished, texts_push}
use Rattle.vcd_read.proofs.SectionLemmas.{All-push_word}
use Rattle.vcd_read.proofs.header.words_of.Goals as goal

pub returns-then-is_end-clause-words : goal.returns-then-is_end-clause-words
returns-then-is_end-clause-words c =
    let text = c.args.reader.now.text in
    let t = token_at text c.in-Some.token.at c.in-Some.token.bytes.now in
    c.loop-token.invariant.so_far
    ∙ words_end (line_at text c.args.first) (texts c.loop-token.words.items) t (left_at text c.loop-token.reader.at)
    (left_at text c.next.new.self.at) (rw c.loop-token.invariant.same at c.in-Some.ensures.token)
    (sym c.if-is_end.ensures)

pub loop-token-preserved : goal.loop-token-preserved
loop-token-preserved c =
    let text = c.args.reader.now.text in
    let line = line_at text c.args.first in
    let t = token_at text c.in-Some.token.at c.in-Some.token.bytes.now in
    let words = c.loop-token.words.items in
    let after = left_at text c.next.new.self.at in
    record {
      same = c.in-Some.ensures.text ∙ c.loop-token.invariant.same;
      moves = omega (arith, c.in-Some.ensures.moves, c.loop-token.invariant.moves);
      so_far =
          c.loop-token.invariant.so_far
          ∙ words_word line (texts words) t (left_at text c.loop-token.reader.at) after
          (rw c.loop-token.invariant.same at c.in-Some.ensures.token) (sym c.if-is_end.ensures)
          ∙ ap (λ (ws : List (List ℕ)). with_words_before ws (section_from line after))
          (sym (texts_push words c.in-Some.token.bytes))
          ∙ ap (λ ws. with_words_before (texts ws) (section_from line after)) (sym c.in_ok-push.ensures.items);
      each = rw c.in_ok-push.ensures.items (All-push_word words c.in-Some.token.bytes c.loop-token.invariant.each
          c.in-Some.ensures.within.1);
    }

pub returns-clause-words : goal.returns-clause-words
returns-clause-words c =
    let text = c.args.reader.now.text in
    rw (c.fault.ensures, c.in_default.ensures.text, c.loop-token.invariant.same) (
    c.loop-token.invariant.so_far
    ∙ words_unfinished (line_at text c.args.first) (texts c.loop-token.words.items)
    (left_at text c.loop-token.reader.at) (rw c.loop-token.invariant.same at c.in_default.ensures.token))
