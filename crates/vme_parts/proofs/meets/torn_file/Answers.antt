use Rattle.std.proofs.Common.{◌≡◌, false, true, sym}
use Rattle.vme_trace.proofs.LevelsEquality.{levels_eq-Decides}
use Rattle.vme_parts.proofs.Tearing.{FilesGoOn-by_test, IsTornAt-early_file, IsTornAt-other_levels}
use Rattle.vme_parts.proofs.meets.torn_file.Goals as goal

pub returns-then-eq-clause-follows : goal.returns-then-eq-clause-follows
returns-then-eq-clause-follows c =
    let same = (levels_eq-Decides c.args.left.now c.args.opening.now c.eq.result c.eq.ensures).0 c.if-eq.true in
    FilesGoOn-by_test c.args.left.now c.args.opening.now c.args.before c.args.after c.early_file.result (sym same)
    c.early_file.ensures.later

pub returns-then-eq-clause-torn : goal.returns-then-eq-clause-torn
returns-then-eq-clause-torn c =
    let same = (levels_eq-Decides c.args.left.now c.args.opening.now c.eq.result c.eq.ensures).0 c.if-eq.true in
    IsTornAt-early_file c.args.left.now c.args.opening.now c.args.before c.args.after c.args.first c.early_file.result
    (sym same)
    c.early_file.ensures.early

pub returns-else-eq-clause-torn : goal.returns-else-eq-clause-torn
returns-else-eq-clause-torn c =
    IsTornAt-other_levels c.args.left.now c.args.opening.now c.args.before c.args.after c.args.first
    (λ e.
    let on : c.eq.result ≡ true
    = (levels_eq-Decides c.args.left.now c.args.opening.now c.eq.result c.eq.ensures).1 (sym e) in
    let off : c.eq.result ≡ false = c.if-eq.false in
    absurd (cc))
