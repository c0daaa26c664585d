use Rattle.std.proofs.Common.{◌≤◌, arith, take}
use Rattle.std.proofs.lemmas.List.{take_all}
use Rattle.std.proofs.lemmas.List.Elements.{All-more}
use Rattle.vme_monitor.proofs.Sensitivity.{All-greater_bound}
use Rattle.vme_monitor.proofs.merge.most_sensitive.Goals as goal
use Rattle.vme_monitor.proofs.merge.most_sensitive.Goals.{then-most-sensitivity, else-most-sensitivity}

pub loop-row-preserved : goal.loop-row-preserved
loop-row-preserved g c =
    let i = c.loop-row.row-index in
    let rows = c.args.rows.now in
    let most = c.if-most-sensitivity.most in
    let grows : c.loop-row.most ≤ most = elim c.if-most-sensitivity.branch [
      | then-most-sensitivity w ↦ omega arith
      | else-most-sensitivity w ↦ omega arith
    ] in
    let here : g.M.Machine.sensitivity_of c.row-item.result.memory ≤ most = elim c.if-most-sensitivity.branch
    [ then-most-sensitivity w ↦ omega arith | else-most-sensitivity w ↦ omega arith ] in
    let so_far = All-greater_bound (λ r. g.M.Machine.sensitivity_of r.memory) c.loop-row.most most (take i rows) grows
    c.loop-row.invariant in
    All-more (λ r. g.M.Machine.sensitivity_of r.memory ≤ most) rows i c.row-item.result c.loop-row-test.true so_far
    (rw c.row-item.is at here)

pub returns : goal.returns
returns g c = rw (take_all c.loop-row.row-index c.args.rows.now c.loop-row-test.false) at c.loop-row.invariant
