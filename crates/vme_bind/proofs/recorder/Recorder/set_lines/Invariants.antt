-- The lines of the line bits so far have the levels of the bits.
use Rattle.std.proofs.Common.{◌≡◌, map, take}
use Rattle.vme_trace.specs.Trace.{changed}
use Rattle.vme_bind.specs.Recording.{line_change}
use Rattle.vme_bind.proofs.recorder.Recorder.set_lines.Given as goal

abbrev pub invariant-loop-line_bit : goal.invariant-loop-line_bit
invariant-loop-line_bit l = record {
  now : l.self.now ≡ changed l.fn.self.now (map (line_change (l.bits)) (take l.line_bit-index l.line_bits));
  slots : l.self.now.slots ≡ l.fn.self.now.slots;
  shown : l.self.shown ≡ l.fn.self.shown;
}
