-- The loop over layers: those so far are shifted, and the others are as they were.
use Rattle.std.proofs.Common.{◌≡◌, map, take, drop}
use Rattle.std.specs.Global.{Vec}
use Rattle.vme_monitor.specs.Walk.{link_value, later_link_value}
use Rattle.vme_monitor.specs.declared.link.Link.{Link}
use Rattle.vme_monitor.proofs.table.shift_layers.Given as goal

abbrev pub invariant-loop-layer : goal.invariant-loop-layer
invariant-loop-layer l =
    record {
      done : map (λ (v : Vec Link). map link_value v.items) (take l.layer-index l.layers)
          ≡ map (map (later_link_value l.by)) (map (λ (v : Vec Link). map link_value v.items)
          (take l.layer-index l.fn.layers));
      rest : drop l.layer-index l.layers ≡ drop l.layer-index l.fn.layers;
    }
