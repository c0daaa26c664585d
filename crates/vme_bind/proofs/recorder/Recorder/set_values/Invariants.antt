-- The values so far are set: with the rest they give the levels after all of them.
use Rattle.std.proofs.Common.{◌≡◌, drop}
use Rattle.vme_bind.specs.Recording.{valued}
use Rattle.vme_bind.proofs.recorder.Recorder.set_values.Given as goal

abbrev pub invariant-loop-value : goal.invariant-loop-value
invariant-loop-value l = record {
  now : valued l.line_bits (drop l.value-index l.values) l.self.now ≡ valued l.line_bits l.values l.fn.self.now;
  slots : l.self.now.slots ≡ l.fn.self.now.slots;
  shown : l.self.shown ≡ l.fn.self.shown;
}
