use Rattle.std.proofs.Common.{sym, ◌∙◌}
use Rattle.vcd_read.specs.Reading.{left_at}
use Rattle.vcd_read.specs.Sections.{declared_by}
use Rattle.vcd_read.proofs.HeaderLemmas.{header_of-no_tokens}
use Rattle.vcd_read.proofs.header.read_header.Goals as goal

pub returns-clause-header : goal.returns-clause-header
returns-clause-header g c =
    let piece = c.args.reader.now.text in
    let text = piece.bytes.now in
    rw (c.fault.ensures, c.in_default.ensures.text, c.loop-token.invariant.same) (
    sym c.loop-token.invariant.left
    ∙ header_of-no_tokens g.D.DeclarationVisitor.with_variable text piece.line
    (declared_by g.D.DeclarationVisitor.scopes g.D.DeclarationVisitor.taken c.loop-token.definitions)
    (left_at piece c.loop-token.reader.at) c.requires.first
    (rw c.loop-token.invariant.same at c.in_default.ensures.token))
