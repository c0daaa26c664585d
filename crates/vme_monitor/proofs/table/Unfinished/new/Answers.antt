use Rattle.std.proofs.Common.{rules, ap, map, ◌∙◌}
use Rattle.vme_monitor.specs.Run.{machine_step}
use Rattle.vme_monitor.specs.Walk.{link_values, outcome_of}
use Rattle.vme_monitor.proofs.DistinctRows.{KeepApart-fresh}
use Rattle.vme_monitor.proofs.Storing.{marks_of-fresh}
use Rattle.vme_monitor.proofs.Summarising.{GiveRuns-fresh}
use Rattle.vme_monitor.proofs.table.Unfinished.new.Goals as goal

pub returns : goal.returns
returns g c =
    let next = machine_step g.M.Machine.observation g.M.Machine.next in
    record {
      runs = λ o.
          GiveRuns-fresh next g.M.Memory.Enumerable.COUNT g.M.Memory.Enumerable.place_of g.M.Memory.Enumerable.nth_of
          g.M.Machine.sensitivity_of c.in_ok-all.all.items c.new-layers.result.items c.merge_rows.new.layers.items
          c.in_ok-rows.rows.items c.merge_rows.new.rows.items c.most_sensitive-most.result c.in_ok-most.most o
          c.in_ok-all.ensures g.met.M.Memory.Enumerable.placed g.met.M.Memory.Enumerable.found (search rules)
          c.new-layers.ensures.items c.in_ok-most.ensures.reached c.in_ok-most.ensures.bounded (search rules);
      apart = λ o.
          KeepApart-fresh next g.M.Memory.Enumerable.COUNT g.M.Memory.Enumerable.place_of g.M.Memory.Enumerable.nth_of
          (link_values c.merge_rows.new.layers.items) (map outcome_of c.merge_rows.new.rows.items) o
          c.in_ok-most.ensures.apart
          (c.in_ok-most.ensures.marks ∙ marks_of-fresh (link_values c.new-layers.result.items) c.in_ok-all.all.items
          (map outcome_of c.in_ok-rows.rows.items) (ap link_values c.new-layers.ensures.items) (search rules));
    }
