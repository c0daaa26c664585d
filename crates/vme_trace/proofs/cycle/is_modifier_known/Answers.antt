-- Whether the bits before the current one are known, and whether the current one is.
use Rattle.std.proofs.Common.{sym, ◌∙◌, ap, arith}
use Rattle.vme_trace.specs.Levels.{is_known, level_at}
use Rattle.vme_trace.specs.Cycle.{is_modifier_bit_known}
use Rattle.vme_trace.proofs.Ranges.{every-fails}
use Rattle.vme_trace.proofs.cycle.is_modifier_known.Goals as goal

pub returns-then-not-is_known : goal.returns-then-not-is_known
returns-then-not-is_known c =
    sym
    (every-fails (is_modifier_bit_known c.args.lines.now) 0 6 c.loop-bit.bit (omega arith) c.loop-bit-test.true
    (ap (λ l. is_known (level_at c.args.lines.now l)) (sym c.address_modifier.ensures)
    ∙ ap is_known (sym c.level.ensures) ∙ sym c.is_known.ensures ∙ c.if-not-is_known.true))
