-- The touched lines so far are shown, and there is room for the changes of the others.
use Rattle.std.proofs.Common.{◌+◌, ◌≤◌, length}
use Rattle.vme_skew.proofs.TouchedLines.{AreShown}
use Rattle.vme_skew.proofs.group.show.Given as goal

abbrev pub invariant-loop-line : goal.invariant-loop-line
invariant-loop-line l = record {
  shown : AreShown l.touched l.line-index l.fn.before l.now l.before l.changes.items;
  room : length l.changes.items + length l.touched ≤ l.changes.capacity + l.line-index;
}
