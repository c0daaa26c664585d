use Rattle.std.proofs.Common.{ℕ, Bool, true, List, ◌∷◌, [], ◌++◌, ◌∙◌, ap, sym, slice_set, take}
use Rattle.std.proofs.lemmas.List.{take_more}
use Rattle.vme_bind.specs.AssignedLines.{with_assigned}
use Rattle.vme_bind.specs.declared.net_lines.LineBit.{LineBit}
use Rattle.vme_bind.proofs.AssignedLineLemmas.{with_assigned-append}
use Rattle.vme_bind.proofs.assigned_lines.AssignedLines.assign_each.Goals as goal

pub loop-line_bit-preserved : goal.loop-line_bit-preserved
loop-line_bit-preserved c =
    let first = c.args.self.now in
    let line_bits = c.args.line_bits.now in
    let i = c.loop-line_bit.line_bit-index in
    let line_bit = c.line_bit-item.result in
    ap (λ (assigned : List Bool). slice_set assigned c.number.result true) c.loop-line_bit.invariant
    ∙ ap (λ (n : ℕ). slice_set (with_assigned (take i line_bits) first) n true) c.number.ensures.number
    ∙ sym (with_assigned-append (take i line_bits) first line_bit)
    ∙ ap (λ (ts : List LineBit). with_assigned ts first) (ap (λ (t : LineBit). take i line_bits ++ t ∷ [])
    c.line_bit-item.is ∙ sym (take_more line_bits i line_bit c.loop-line_bit-test.true))
