-- The verdict is that of what the monitors find from the opening on.
use Rattle.std.proofs.Common.{◌≤◌, arith}
use Rattle.vme_summary.proofs.Whole.{IsVerdictOf-of_found}
use Rattle.vme_summary.proofs.span.Span.verdict.Goals as goal

pub returns : goal.returns
returns c =
    let s = c.args.self.now in
    let few : s.extent.opening.slots ≤ 21 = omega arith in
    IsVerdictOf-of_found s few c.found_from.result c.found_from.ensures c.verdict.result c.verdict.ensures
