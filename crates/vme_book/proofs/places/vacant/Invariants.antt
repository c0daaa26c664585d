-- The loop over the places: those so far are empty, and there is room for all.
use Rattle.std.proofs.Common.{◌≡◌, ◌≤◌, replicate, None, vec_capacity}
use Rattle.vme_book.proofs.places.vacant.Given as goal

abbrev pub invariant-loop : goal.invariant-loop
invariant-loop g l = record {
  items : l.places.items ≡ replicate l.counter None;
  room : l.count ≤ vec_capacity l.places;
}
