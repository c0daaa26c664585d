-- The loop over links: those so far are shifted, and the others are as they were.
use Rattle.std.proofs.Common.{◌≡◌, map, take, drop}
use Rattle.vme_monitor.specs.Walk.{later_link_value, link_value}
use Rattle.vme_monitor.proofs.link.shift_links.Given as goal

abbrev pub invariant-loop-link : goal.invariant-loop-link
invariant-loop-link l =
    record {
      done : map link_value (take l.link-index l.links) ≡ map (later_link_value l.by)
          (map link_value (take l.link-index l.fn.links));
      rest : drop l.link-index l.links ≡ drop l.link-index l.fn.links;
    }
