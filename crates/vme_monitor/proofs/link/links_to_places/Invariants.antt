-- The loop over rows: there is a link for each row so far, shifted, to the place of its memory.
use Rattle.std.proofs.Common.{◌≡◌, map, take}
use Rattle.vme_monitor.specs.Walk.{later_outcome, outcome_of, link_to_place, link_value}
use Rattle.vme_monitor.proofs.link.links_to_places.Given as goal

abbrev pub invariant-loop-row : goal.invariant-loop-row
invariant-loop-row g l = map link_value l.all.items ≡ map (link_to_place g.P.Enumerable.place_of)
    (map (later_outcome l.by) (map outcome_of (take l.row-index l.rows)))
