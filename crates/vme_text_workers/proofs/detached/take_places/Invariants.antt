-- The results so far are of the calls with their places.
use Rattle.vme_text_workers.specs.Calls.{ArePairedResults}
use Rattle.vme_text_workers.proofs.detached.take_places.Given as goal

abbrev pub invariant-loop : goal.invariant-loop
invariant-loop g l = ArePairedResults (goal.F-post g l.f) l.taken.items
