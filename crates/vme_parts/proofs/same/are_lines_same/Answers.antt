use Rattle.vme_trace.proofs.LevelsEquality.{levels_eq-Decides}
use Rattle.vme_parts.proofs.same.are_lines_same.Goals as goal

pub returns : goal.returns
returns c =
    let same = levels_eq-Decides c.args.lines.now c.args.others.now c.eq.result c.eq.ensures in
    (λ t. same.0 t, λ e. same.1 e)
