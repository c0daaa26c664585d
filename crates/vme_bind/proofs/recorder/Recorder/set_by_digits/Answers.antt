use Rattle.std.proofs.Common.{◌≡◌, List, [], map, refl, ap, ◌∙◌, take_all, arith}
use Rattle.std.proofs.lemmas.List.{nil_from_length}
use Rattle.vme_trace.specs.Levels.{set_level}
use Rattle.vme_trace.specs.Trace.{changed}
use Rattle.vcd_read.specs.Numbers.{extended}
use Rattle.vme_bind.specs.declared.net_lines.LineBit.{LineBit}
use Rattle.vme_bind.specs.Recording.{line_change}
use Rattle.vme_bind.proofs.LineBitLemmas.{changed-take_next}
use Rattle.vme_bind.proofs.recorder.Recorder.set_by_digits.Goals as goal

pub returns-in-empty-clause-ok : goal.returns-in-empty-clause-ok
unfolding changed
returns-in-empty-clause-ok c =
    let none : c.args.line_bits.now ≡ [] = nil_from_length c.args.line_bits.now (omega (arith, c.in-empty.len_below)) in
    rw none refl

pub returns-in-len1-clause-ok : goal.returns-in-len1-clause-ok
unfolding changed
returns-in-len1-clause-ok c =
    let line_bits = c.args.line_bits.now in
    let line_bit = c.line_bit-item.result in
    let bits = extended c.args.size c.args.digits.now in
    let levels = c.args.self.now.now in
    let level = c.level_by_digits.result in
    let here = changed-take_next line_bits bits 0 line_bit levels level (omega (arith, c.in-len1.len_at_least))
    c.line_bit-item.is c.level_by_digits.ensures in
    let all : set_level levels line_bit.line level ≡ changed levels (map (line_change bits) line_bits)
    = here ∙ ap (λ (ts : List LineBit). changed levels (map (line_change bits) ts))
    (take_all 1 line_bits (omega (arith, c.in-len1.len_below))) in
    rw all at c.set_line.ensures.ok
