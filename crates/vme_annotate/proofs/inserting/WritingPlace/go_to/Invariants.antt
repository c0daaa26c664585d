use Rattle.std.proofs.Common.{◌≡◌, ℕ, ◌≤◌, List, length}
use Rattle.vme_annotate.specs.Writing.{IsWrittenTo, StaysWithin, times_ahead}
use Rattle.vme_annotate.proofs.inserting.WritingPlace.go_to.Given as goal

abbrev pub invariant-loop-self : goal.invariant-loop-self
invariant-loop-self l = record {
  count : l.self.count ≡ l.fn.self.count;
  text : l.self.places.text ≡ l.fn.self.places.text;
  within : StaysWithin l.fn.self → StaysWithin l.self;
  written : (dump : List ℕ) (asked : ℕ) → IsWrittenTo dump asked asked l.fn.self → asked ≤ l.time
      → IsWrittenTo dump asked l.time l.self;
}

abbrev pub decreases-loop-self : goal.decreases-loop-self
decreases-loop-self l = length (times_ahead l.self.next l.self.places)
