-- The changes so far were made, and the group begins as before.
use Rattle.std.proofs.Common.{◌≡◌, take}
use Rattle.vme_trace.specs.Trace.{changed}
use Rattle.vme_skew.proofs.group.StepGroup.take.Given as goal

abbrev pub invariant-loop-change : goal.invariant-loop-change
invariant-loop-change l = record {
  start : l.self.start ≡ l.fn.self.start;
  before : l.self.before ≡ l.fn.self.before;
  now : l.self.now ≡ changed l.fn.self.now (take l.change-index l.changes);
  slots : l.self.now.slots ≡ l.fn.self.now.slots;
}
