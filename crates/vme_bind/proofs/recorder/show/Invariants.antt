-- The lines so far are shown, and there is room for the changes of the others.
use Rattle.std.proofs.Common.{◌+◌, ◌≤◌, length}
use Rattle.vme_bind.proofs.RecorderLemmas.{AreShown}
use Rattle.vme_bind.proofs.recorder.show.Given as goal

abbrev pub invariant-loop-number : goal.invariant-loop-number
invariant-loop-number l = record {
  shown : AreShown l.number l.fn.shown l.now l.shown l.changes.items;
  room : length l.changes.items + l.end ≤ l.changes.capacity + l.number;
}
