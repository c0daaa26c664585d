use Rattle.std.proofs.Common.{◌+◌, drop, map, ◌∙◌, sym, ap}
use Rattle.vme_trace.proofs.Changing.{slots-kept}
use Rattle.vme_bind.specs.NetLines.{line_bits_of}
use Rattle.vme_bind.specs.Recording.{line_change, valued, RecorderLevels}
use Rattle.vme_bind.proofs.LineBitLemmas.{valued-drop}
use Rattle.vme_bind.proofs.recorder.Recorder.set_values.Goals as goal

pub loop-value-preserved : goal.loop-value-preserved
loop-value-preserved c =
    let v = c.value-item.result in
    let line_bits = c.args.line_bits.now in
    let values = c.args.values.now in
    let i = c.loop-value.value-index in
    let old = c.loop-value.self in
    let ok = rw (c.of.ensures, c.as_slice.ensures) at c.in_ok-set_lines.ensures in
    record {
      now =
          ap (λ (p : RecorderLevels). valued line_bits (drop (i + 1) values) p.now) ok
          ∙ sym (valued-drop line_bits values i v old.now c.loop-value-test.true c.value-item.is)
          ∙ c.loop-value.invariant.now;
      slots = ap (λ (p : RecorderLevels). p.now.slots) ok ∙ slots-kept old.now
          (map (line_change v.bits) (line_bits_of line_bits v.net)) ∙ c.loop-value.invariant.slots;
      shown = ap (λ (p : RecorderLevels). p.shown) ok ∙ c.loop-value.invariant.shown;
    }
