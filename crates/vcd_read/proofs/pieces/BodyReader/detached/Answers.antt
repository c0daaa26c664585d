use Rattle.std.proofs.Common.{◌∙◌, [], sym, ap}
use Rattle.std.proofs.Math.Seq.{take-length}
use Rattle.vcd_read.specs.Tokens.{tokens_from}
use Rattle.vcd_read.specs.Reading.{line_behind, tokens_after}
use Rattle.vcd_read.specs.Body.{body_from, ready}
use Rattle.vcd_read.specs.BodyFold.{progress_of, state_at}
use Rattle.vcd_read.specs.DetachedPieces.{before_piece, time_first}
use Rattle.vcd_read.proofs.DetachedLemmas.{tokens_after-start, steps-to_end}
use Rattle.vcd_read.proofs.pieces.BodyReader.detached.Goals as goal

pub returns-in-Ready-clause-read : goal.returns-in-Ready-clause-read
returns-in-Ready-clause-read g c =
    let line = c.args.line in
    let piece = c.args.piece.now in
    record {
      begins = ap (λ ts. time_first (body_from ready ts)) (sym (tokens_after-start line piece)) ∙ c.in_ok-time.ensures;
      whole =
          steps-to_end g.N.ChangeVisitor.with_change g.N.ChangeVisitor.with_instant c.args.self.now.codes
          (before_piece (g.N.ChangeVisitor.taken c.args.visitor) c.in_ok-time.time)
          (state_at (progress_of g.N.ChangeVisitor.taken c.in-Ok.field-0.timed) c.in-Ok.field-0.dump_section)
          c.in-Ok.field-0.place (tokens_after line piece 0) (tokens_from line piece)
          (tokens_after-start line piece) c.in-Ready.is (c.in-Ok.ensures []);
      line = c.line-behind.ensures ∙ ap (line_behind line) (take-length piece);
    }
