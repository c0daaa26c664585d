-- Whether the lines before the current one are high, and whether the current one is.
use Rattle.std.proofs.Common.{◌≡◌, ◌+◌, sym, ◌∙◌, ap, arith}
use Rattle.vme_trace.specs.Levels.{is_high, is_high_on}
use Rattle.vme_trace.proofs.Ranges.{every-empty, every-fails, every-more}
use Rattle.vme_trace.proofs.lines.Lines.are_high.Goals as goal

pub loop-number-init : goal.loop-number-init
loop-number-init c = rw c.number-number.ensures.number (every-empty (is_high_on c.args.self.now) c.args.first)

pub loop-number-preserved : goal.loop-number-preserved
loop-number-preserved c =
    every-more (is_high_on c.args.self.now) c.args.first c.loop-number.number c.loop-number.invariant
    (ap is_high (sym c.at.ensures) ∙ sym c.is_high.ensures ∙ c.if-not-is_high.false)

pub returns-then-not-is_high : goal.returns-then-not-is_high
returns-then-not-is_high c =
    sym
    (every-fails (is_high_on c.args.self.now) c.args.first (c.args.last + 1) c.loop-number.number (omega arith)
    (omega arith)
    (ap is_high (sym c.at.ensures) ∙ sym c.is_high.ensures ∙ c.if-not-is_high.true))

pub returns : goal.returns
returns c = let e : c.loop-number.number ≡ c.args.last + 1 = omega arith in rw (← e) (sym c.loop-number.invariant)
