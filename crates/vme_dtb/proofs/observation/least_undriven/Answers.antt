-- After each data line of the loop no line so far is both moved by the transfer and unknown (`is_undriven`), or the
-- least such line has been returned.
use Rattle.std.proofs.Common.{ℕ, ◌+◌, ◌∙◌, ap, sym, arith, Some}
use Rattle.vme_trace.specs.Instants.{every}
use Rattle.vme_trace.specs.Levels.{is_known, is_known_on}
use Rattle.vme_trace.specs.LineNumbers.{D}
use Rattle.vme_dtb.proofs.UndrivenLines.{is_undriven-none_to_next, is_undriven-not_selected, is_undriven-not_unknown}
use Rattle.vme_dtb.proofs.UndrivenLines.{is_undriven-none_before_data, is_undriven-least}
use Rattle.vme_dtb.proofs.UndrivenLines.{is_undriven-none_if_known, is_undriven-none_next, is_undriven-none}
use Rattle.vme_dtb.proofs.UndrivenLines.{is_undriven-found}
use Rattle.vme_dtb.proofs.observation.least_undriven.Goals as goal

pub loop-bit-init : goal.loop-bit-init
loop-bit-init c = is_undriven-none_before_data c.args.lines.now

pub returns-then-is_selected : goal.returns-then-is_selected
returns-then-is_selected c =
    let n = D c.loop-bit.bit in
    ap Some c.data-line.ensures
    ∙ sym
    (is_undriven-least c.args.lines.now n (omega arith) c.loop-bit.invariant
    (is_undriven-found c.args.lines.now n c.data-line.result c.data-line.ensures (sym c.is_selected.ensures
    ∙ c.if-is_selected.true)
    (ap is_known (sym c.level.ensures) ∙ (sym c.is_known.ensures ∙ c.if-not-is_known.true))))

pub loop-bit-preserved : goal.loop-bit-preserved
loop-bit-preserved c = is_undriven-none_to_next c.args.lines.now c.loop-bit.bit
    (is_undriven-none_next c.args.lines.now (D c.loop-bit.bit)
    c.loop-bit.invariant (elim c.else-not-is_known.branch [
      | goal.else-not-is_known-via-then-not-is_known+else-is_selected w ↦
          is_undriven-not_selected c.args.lines.now (D c.loop-bit.bit) c.data-line.result c.data-line.ensures
          (sym w.is_selected.ensures
          ∙ w.if-is_selected.false)
      | goal.else-not-is_known-via-else-not-is_known w ↦
          is_undriven-not_unknown c.args.lines.now (D c.loop-bit.bit) c.data-line.result c.data-line.ensures
          (ap is_known (sym c.level.ensures) ∙ (sym c.is_known.ensures ∙ w.if-not-is_known.false))
    ]))

pub returns : goal.returns
returns c = sym (is_undriven-none c.args.lines.now (D c.loop-bit.bit) (omega arith) c.loop-bit.invariant)

pub returns-then-are_known : goal.returns-then-are_known
returns-then-are_known c =
    let lines = c.args.lines.now in
    sym
    (is_undriven-none_if_known lines
    (ap (λ (n : ℕ). every (is_known_on lines) n 191) (sym c.data.ensures)
    ∙ (ap (λ (n : ℕ). every (is_known_on lines) c.data.result (n + 1)) (sym c.data-2.ensures)
    ∙ (sym c.are_known.ensures ∙ c.if-are_known.true))))
