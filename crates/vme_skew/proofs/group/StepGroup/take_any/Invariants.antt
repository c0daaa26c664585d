-- The changes so far were made, if they are of lines that exist, and the group begins as before.
use Rattle.std.proofs.Common.{◌≡◌, take}
use Rattle.vme_trace.specs.Trace.{changed}
use Rattle.vme_skew.specs.Group.{ChangeLines}
use Rattle.vme_skew.proofs.group.StepGroup.take_any.Given as goal

abbrev pub invariant-loop-change : goal.invariant-loop-change
invariant-loop-change l = record {
  start : l.self.start ≡ l.fn.self.start;
  before : l.self.before ≡ l.fn.self.before;
  slots : l.self.now.slots ≡ l.fn.self.now.slots;
  now : ChangeLines l.fn.self.now.slots l.changes → l.self.now ≡ changed l.fn.self.now (take l.change-index l.changes);
}
