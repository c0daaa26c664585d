use Rattle.std.proofs.Common.{◌≡◌, ◌≤◌, ◌∙◌, ℕ, List, ap, length, subst}
use Rattle.vcd_read.specs.declared.body_piece.BodyPiece.{BodyPiece}
use Rattle.vcd_read.specs.Header.{nothing_declared}
use Rattle.vcd_read.specs.Tokens.{tokens}
use Rattle.vcd_read.proofs.FrontLemmas.{ReadFailsAs-longer, header_of-longer, IsMetAtTheEnd-others}
use Rattle.vcd_read.proofs.PieceLemmas.{drop-by_length}
use Rattle.vcd_read.proofs.pieces.read_front.Goals as goal

pub returns-in-Ok-clause-header : goal.returns-in-Ok-clause-header
returns-in-Ok-clause-header g c =
    let front = c.args.front.now in
    let h = rw (c.new-reader.ensures.at, c.new-reader.ensures.text, c.new-reader.ensures.line) at
    c.in-Ok.ensures.header in
    λ text more.
    header_of-longer g.D.DeclarationVisitor.with_variable front text more
    (nothing_declared (g.D.DeclarationVisitor.taken c.args.declarations)) (tokens front) _ h

pub returns-in-Ok-clause-left : goal.returns-in-Ok-clause-left
returns-in-Ok-clause-left g c =
    let reader = c.read_header.new.reader in
    let text : reader.text.bytes.now ≡ c.args.front.now =
    ap (λ (text : BodyPiece). text.bytes.now) c.in-Ok.ensures.text ∙ c.new-reader.ensures.text in
    drop-by_length c.args.front.now reader.at (subst (λ (bytes : List ℕ). reader.at ≤ length bytes) text reader.within)

pub returns-in_default : goal.returns-in_default
returns-in_default g c =
    let front = c.args.front.now in
    let h = rw (c.new-reader.ensures.at, c.new-reader.ensures.text, c.new-reader.ensures.line) at
    c.in-Err.ensures.header in
    record {
      line = tt;
      left = tt;
      header = λ text more.
          ReadFailsAs-longer g.D.DeclarationVisitor.with_variable front text more
          (nothing_declared (g.D.DeclarationVisitor.taken c.args.declarations)) (tokens front) c.in-Err.fault.line
          c.in-Err.fault.kind
          (IsMetAtTheEnd-others c.in-Err.fault.kind c.in_default.not-UnfinishedSection
          c.in_default.not-NoEndDefinitions) h;
    }
