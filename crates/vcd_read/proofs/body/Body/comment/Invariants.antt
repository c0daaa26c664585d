-- The loop over words of a comment: none so far ends it, and whatever follows, the body continues from here as from the
-- start of the comment.
use Rattle.std.proofs.Common.{◌≡◌, ◌≤◌, ◌-◌, ◌++◌, List, length}
use Rattle.vcd_read.specs.Tokens.{Token}
use Rattle.vcd_read.specs.Reading.{line_of, left_at}
use Rattle.vcd_read.specs.Body.{in_comment, body_from}
use Rattle.vcd_read.proofs.body.Body.comment.Given as goal

abbrev pub invariant-loop-word : goal.invariant-loop-word
invariant-loop-word g l = record {
  codes : l.self.codes ≡ l.fn.self.codes;
  text : l.self.reader.text ≡ l.fn.self.reader.text;
  timed : l.self.timed ≡ l.fn.self.timed;
  dump_section : l.self.dump_section ≡ l.fn.self.dump_section;
  forward : l.fn.self.reader.at ≤ l.self.reader.at;
  place : l.self.place ≡ l.fn.self.place;
  rest : (more : List Token) → body_from (in_comment (line_of l.fn.self.reader.text l.start))
      (left_at l.fn.self.reader.text l.fn.self.reader.at ++ more)
      ≡ body_from (in_comment (line_of l.fn.self.reader.text l.start)) (left_at l.fn.self.reader.text l.self.reader.at
      ++ more);
}

abbrev pub decreases-loop-word : goal.decreases-loop-word
decreases-loop-word g l = length l.self.reader.text.bytes.now - l.self.reader.at
