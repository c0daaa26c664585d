use Rattle.std.proofs.Common.{rules, ap, sym, ◌∙◌}
use Rattle.vme_monitor.specs.Walk.{later_outcome, outcome_of}
use Rattle.vme_monitor.proofs.Stepped.{map-take_set, drop-set_next}
use Rattle.vme_monitor.proofs.link.shift_rows.Goals as goal

pub loop-row-preserved : goal.loop-row-preserved
loop-row-preserved g c =
    record {
      done = map-take_set outcome_of (later_outcome c.args.by) c.loop-row.rows c.args.rows.now c.loop-row.row-index
          c.row-item.result c.shift_instants.new.self (search rules) (search rules) (search rules)
          (c.shift_instants.ensures ∙ ap (λ r. later_outcome c.args.by (outcome_of r)) (sym c.row-item.is))
          c.loop-row.invariant.done c.loop-row.invariant.rest;
      rest = drop-set_next c.loop-row.rows c.args.rows.now c.loop-row.row-index c.shift_instants.new.self
          c.loop-row.invariant.rest;
    }
