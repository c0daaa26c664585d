use Rattle.std.proofs.Common.{rules, ◌≡◌, length, map, ap, sym, ◌∙◌, get_or, take_at}
use Rattle.std.specs.Global.{Vec}
use Rattle.vme_monitor.specs.Walk.{link_value, later_link_value}
use Rattle.vme_monitor.specs.declared.link.Link.{Link}
use Rattle.vme_monitor.proofs.Stepped.{map-take_set, drop-set_next}
use Rattle.vme_monitor.proofs.table.shift_layers.Goals as goal

pub loop-layer-preserved : goal.loop-layer-preserved
loop-layer-preserved c =
    let kept : length c.shift_links.new.links ≡ (get_or c.loop-layer.layers c.loop-layer.layer-index
    c.layer-item.result).len = search rules in
    record {
      done = map-take_set (λ (v : Vec Link). map link_value v.items)
          (map (later_link_value c.args.by)) c.loop-layer.layers
          c.args.layers.now c.loop-layer.layer-index c.layer-item.result _ (search rules) (search rules) (search rules)
          (ap (map link_value) (take_at c.shift_links.new.links _ _ kept) ∙ c.shift_links.ensures
          ∙ ap (λ ls. map (later_link_value c.args.by) (map link_value ls)) c.as_mut_slice.ensures.value
          ∙ ap (λ (v : Vec Link). map (later_link_value c.args.by) (map link_value v.items)) (sym c.layer-item.is))
          c.loop-layer.invariant.done c.loop-layer.invariant.rest;
      rest = drop-set_next c.loop-layer.layers c.args.layers.now c.loop-layer.layer-index _ c.loop-layer.invariant.rest;
    }
