-- The loop over rows: none so far is more sensitive than `most`.
use Rattle.std.proofs.Common.{◌≤◌, All, take}
use Rattle.vme_monitor.proofs.merge.most_sensitive.Given as goal

abbrev pub invariant-loop-row : goal.invariant-loop-row
invariant-loop-row g l = All (λ row. g.M.Machine.sensitivity_of row.memory ≤ l.most) (take l.row-index l.rows)
