-- Whatever follows, reading on after the words that were read gives what reading before them gave: the words are of the
-- comment that is open.
use Rattle.std.proofs.Common.{◌++◌, ◌∙◌, List, refl, sym, ap, arith}
use Rattle.vcd_read.specs.Tokens.{Token}
use Rattle.vcd_read.specs.Reading.{line_of, left_at, token_at}
use Rattle.vcd_read.specs.Bodies.{place_of, until_fault}
use Rattle.vcd_read.specs.Body.{in_comment}
use Rattle.vcd_read.specs.declared.body_piece.BodyPiece.{BodyPiece}
use Rattle.vcd_read.specs.BodyFold.{progress_of}
use Rattle.vcd_read.specs.BodyPieces.{state_in}
use Rattle.vcd_read.proofs.BodyLemmas.{body_from-comment_end, body_from-comment_word, until_fault-nothing_left}
use Rattle.vcd_read.proofs.BodyLemmas.{until_fault-same_state}
use Rattle.vcd_read.proofs.body.Body.comment.Goals as goal

-- the word is `$end`: the body goes on after the comment
pub returns-then-is_end-clause-rest : goal.returns-then-is_end-clause-rest
returns-then-is_end-clause-rest g c =
    let old = c.args.self.now in
    let text = old.reader.text in
    let line = line_of text c.args.start in
    let inv = c.loop-word.invariant in
    let after = c.next.new.self.at in
    let t = token_at text c.in-Some.word.at c.in-Some.word.bytes.now in
    let cut = rw inv.text at c.in-Some.ensures.token in
    λ more.
    let ended = body_from-comment_end line (left_at text c.loop-word.self.reader.at ++ more)
    (left_at text after ++ more) t
    (ap (λ (ts : List Token). ts ++ more) cut) (sym c.is_end.ensures ∙ c.if-is_end.true) in
    ap (until_fault g.T.ChangeVisitor.with_change g.T.ChangeVisitor.with_instant old.codes.now
    (state_in g.T.ChangeVisitor.taken old)) (inv.rest more ∙ ended)
    ∙ until_fault-same_state g.T.ChangeVisitor.with_change g.T.ChangeVisitor.with_instant old.codes.now
    c.loop-word.self.codes.now text c.next.new.self.text (progress_of g.T.ChangeVisitor.taken old.timed)
    (progress_of g.T.ChangeVisitor.taken c.loop-word.self.timed) old.dump_section
    c.loop-word.self.dump_section _ (place_of c.loop-word.self.place) after (cc) (cc) (rw inv.timed refl)
    inv.dump_section (ap place_of (inv.place ∙ c.requires.between)) more

-- the word is another one: the comment goes on
pub loop-word-preserved : goal.loop-word-preserved
loop-word-preserved g c =
    let text = c.args.self.now.reader.text in
    let line = line_of text c.args.start in
    let inv = c.loop-word.invariant in
    let after = c.next.new.self.at in
    let t = token_at text c.in-Some.word.at c.in-Some.word.bytes.now in
    let cut = rw inv.text at c.in-Some.ensures.token in
    record {
      codes = inv.codes;
      text = c.in-Some.ensures.text ∙ inv.text;
      timed = inv.timed;
      dump_section = inv.dump_section;
      forward = omega (arith, c.in-Some.ensures.forward, inv.forward);
      place = inv.place;
      rest = λ more. inv.rest more ∙ body_from-comment_word line (left_at text c.loop-word.self.reader.at ++ more)
          (left_at text after ++ more) t (ap (λ (ts : List Token). ts ++ more) cut) (sym c.is_end.ensures
          ∙ c.if-is_end.false);
    }

-- no word is left: the comment goes on in the next piece
pub returns-clause-rest : goal.returns-clause-rest
returns-clause-rest g c =
    let old = c.args.self.now in
    let text = old.reader.text in
    let inv = c.loop-word.invariant in
    let place = in_comment (line_of text c.args.start) in
    let after = c.next.new.self.at in
    let later = c.in_default.ensures.text ∙ inv.text in
    let none = rw inv.text at c.in_default.ensures.token in
    let end = rw inv.text at c.in_default.ensures.end in
    let s = state_in g.T.ChangeVisitor.taken old in
    λ more.
    ap (until_fault g.T.ChangeVisitor.with_change g.T.ChangeVisitor.with_instant old.codes.now s) (inv.rest more)
    ∙ until_fault-nothing_left g.T.ChangeVisitor.with_change g.T.ChangeVisitor.with_instant old.codes.now s place
    (left_at text c.loop-word.self.reader.at) (left_at text after) none end more
    ∙ until_fault-same_state g.T.ChangeVisitor.with_change g.T.ChangeVisitor.with_instant old.codes.now
    c.loop-word.self.codes.now text c.next.new.self.text (progress_of g.T.ChangeVisitor.taken old.timed)
    (progress_of g.T.ChangeVisitor.taken c.loop-word.self.timed) old.dump_section
    c.loop-word.self.dump_section place (in_comment c.line.result) after (cc) later (rw inv.timed refl) inv.dump_section
    (ap in_comment (c.line.ensures ∙ ap (λ (x : BodyPiece). line_of x c.args.start) later)) more
