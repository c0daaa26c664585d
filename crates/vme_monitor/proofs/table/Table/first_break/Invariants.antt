-- The loop over layers: a run from the layer and the index that are reached has the first break of the memory's
-- outcome.
use Rattle.std.proofs.Common.{◌≡◌, drop}
use Rattle.vme_monitor.specs.Tables.{outcome}
use Rattle.vme_monitor.proofs.table.Table.first_break.Given as goal

abbrev pub invariant-loop-layer : goal.invariant-loop-layer
invariant-loop-layer g l = (outcome (drop l.layer-index l.self.layers.items) l.self.rows.items l.fn.memory
    l.k).first_break
    ≡ (outcome l.fn.self.layers.items l.fn.self.rows.items l.fn.memory
    (g.P.Enumerable.place_of l.fn.memory)).first_break
