-- The loop over links: the count is the number of marks of the links so far, at most 2^64 - 1.
use Rattle.std.proofs.Common.{◌≡◌, ◌-◌, ◌^◌, map, take}
use Rattle.std.specs.Prelude.{min}
use Rattle.std.specs.List.{sum_by}
use Rattle.vme_monitor.specs.Meeting.{link_marks}
use Rattle.vme_monitor.specs.Walk.{link_value}
use Rattle.vme_monitor.proofs.link.marks_in_links.Given as goal

abbrev pub invariant-loop-link : goal.invariant-loop-link
invariant-loop-link l = l.count ≡ min (sum_by link_marks (map link_value (take l.link-index l.links))) (2 ^ 64 - 1)
