use Rattle.std.proofs.lemmas.List.{take_rest}
use Rattle.vcd_read.proofs.PieceLemmas.{line_behind-rest}
use Rattle.vcd_read.proofs.pieces.Front.before_body.Goals as goal

pub returns-clause-line : goal.returns-clause-line
returns-clause-line g c =
    let text = c.self.inside.text.now in
    let at = c.self.inside.at in
    rw (
      ← c.self.view_is,
      take_rest text at,
      c.line.ensures,
      c.new-2.ensures.text,
      c.new-2.ensures.line,
    ) (line_behind-rest 1 text at)
