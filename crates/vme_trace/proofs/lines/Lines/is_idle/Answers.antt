-- An idle bus, by the ranges of lines that the backplane has.
use Rattle.std.proofs.Common.{sym, ◌∙◌}
use Rattle.vme_trace.proofs.IdleLines.{is_idle-ranges}
use Rattle.vme_trace.proofs.lines.Lines.is_idle.Goals as goal

pub returns : goal.returns
returns c =
    let shown = c.is_each_range_idle.ensures in
    shown.ranges ∙ sym (is_idle-ranges c.args.self.now shown.first shown.last)
