use Rattle.std.proofs.Common.{rules, ap, sym, ◌∙◌}
use Rattle.vme_monitor.specs.Walk.{link_value, later_link_value}
use Rattle.vme_monitor.proofs.Stepped.{map-take_set, drop-set_next}
use Rattle.vme_monitor.proofs.link.shift_links.Goals as goal

pub loop-link-preserved : goal.loop-link-preserved
loop-link-preserved c =
    record {
      done = map-take_set link_value (later_link_value c.args.by) c.loop-link.links c.args.links.now
          c.loop-link.link-index
          c.link-item.result c.shift_instants.new.self (search rules) (search rules) (search rules)
          (c.shift_instants.ensures ∙ ap (λ l. later_link_value c.args.by (link_value l)) (sym c.link-item.is))
          c.loop-link.invariant.done c.loop-link.invariant.rest;
      rest = drop-set_next c.loop-link.links c.args.links.now c.loop-link.link-index c.shift_instants.new.self
          c.loop-link.invariant.rest;
    }
