-- The loop over sections: reading on from here, with what was declared so far, gives the header that the text has from
-- the start.
use Rattle.std.proofs.Common.{◌≡◌, ◌-◌, length}
use Rattle.vcd_read.specs.Reading.{left_at}
use Rattle.vcd_read.specs.Header.{nothing_declared}
use Rattle.vcd_read.specs.Sections.{declared_by, header_of}
use Rattle.vcd_read.proofs.header.read_header.Given as goal

abbrev pub invariant-loop-token : goal.invariant-loop-token
invariant-loop-token g l =
    let piece = l.fn.reader.text in
    let text = piece.bytes.now in
    record {
      same : l.reader.text ≡ l.fn.reader.text;
      left : header_of g.D.DeclarationVisitor.with_variable text
          (declared_by g.D.DeclarationVisitor.scopes g.D.DeclarationVisitor.taken l.definitions)
          (left_at piece l.reader.at)
          ≡ header_of g.D.DeclarationVisitor.with_variable text
          (nothing_declared (g.D.DeclarationVisitor.taken l.fn.declarations)) (left_at piece l.fn.reader.at);
    }

abbrev pub decreases-loop-token : goal.decreases-loop-token
decreases-loop-token g l = length l.reader.text.bytes.now - l.reader.at
