use Rattle.std.proofs.Common.{refl, ◌∙◌, ap, sym, subst}
use Rattle.vme_trace.specs.Levels.{Levels, set_level}
use Rattle.vme_trace.specs.Trace.{changed}
use Rattle.vme_bind.specs.declared.net_lines.LineBit.{LineBit}
use Rattle.vme_bind.specs.Recording.{IsLine, RecorderLevels}
use Rattle.vme_bind.proofs.LineBitLemmas.{changed-take_next}
use Rattle.vcd_read.specs.Numbers.{extended}
use Rattle.vme_bind.proofs.recorder.Recorder.set_each_by_digits.Goals as goal

-- the line of the current line bit is a line of the backplane
pub set_line-requires : goal.set_line-requires
set_line-requires c =
    let line_bit = c.line_bit-item.result in
    let old = c.args.self.now.now in
    let line : IsLine old.slots line_bit.line = subst (λ (t : LineBit). IsLine old.slots t.line)
    (sym c.line_bit-item.is) (c.requires.lines c.loop-line_bit.line_bit-index line_bit c.loop-line_bit-test.true) in
    subst (λ s. IsLine s line_bit.line) (sym c.loop-line_bit.invariant.slots) line

pub loop-line_bit-preserved : goal.loop-line_bit-preserved
loop-line_bit-preserved c =
    let line_bit = c.line_bit-item.result in
    let line_bits = c.args.line_bits.now in
    let i = c.loop-line_bit.line_bit-index in
    let level = c.level_by_digits.result in
    let ok = c.in_ok-set_line.ensures.ok in
    record {
      now =
          ap (λ (p : RecorderLevels). p.now) ok ∙ ap (λ (v : Levels). set_level v line_bit.line level)
          c.loop-line_bit.invariant.now
          ∙ changed-take_next line_bits (extended c.args.size c.args.digits.now) i line_bit c.args.self.now.now level
          c.loop-line_bit-test.true c.line_bit-item.is c.level_by_digits.ensures;
      slots = c.set_line.ensures.slots ∙ c.loop-line_bit.invariant.slots;
      shown = ap (λ (p : RecorderLevels). p.shown) ok ∙ c.loop-line_bit.invariant.shown;
    }

pub loop-line_bit-init : goal.loop-line_bit-init
unfolding changed
loop-line_bit-init c = record { now = refl; slots = refl; shown = refl }
