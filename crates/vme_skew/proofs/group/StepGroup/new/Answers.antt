use Rattle.std.proofs.Common.{◌≡◌, length, refl, rules}
use Rattle.vme_trace.specs.LineNumbers.{line_count}
use Rattle.vme_skew.proofs.Grouping.{KeepsTouchedLines-begun}
use Rattle.vme_skew.proofs.group.StepGroup.new.Goals as goal

pub invariant_of-result : goal.invariant_of-result
invariant_of-result c =
    let all : length c.args.opening.levels ≡ line_count = search rules in
    KeepsTouchedLines-begun c.args.opening c.args.opening c.new.result.items c.none.result refl all c.new.ensures.items
    c.none.ensures
