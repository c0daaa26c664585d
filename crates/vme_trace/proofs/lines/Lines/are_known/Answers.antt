-- The known lines are counted up to the current one, and with it.
use Rattle.std.proofs.Common.{sym, ◌∙◌, ap, arith}
use Rattle.vme_trace.specs.Levels.{is_known, is_known_on}
use Rattle.vme_trace.proofs.Counting.{AreCounted-all, AreCounted-none, AreCounted-one_more, AreCounted-one_passed}
use Rattle.vme_trace.proofs.lines.Lines.are_known.Goals as goal
use Rattle.vme_trace.proofs.lines.Lines.are_known.Goals.{then-is_known, else-is_known}

pub loop-number-init : goal.loop-number-init
loop-number-init c = AreCounted-none (is_known_on c.args.self.now) c.args.first c.number-number.result 0
    c.number-number.ensures.number

pub loop-number-preserved : goal.loop-number-preserved
loop-number-preserved c =
    let p = is_known_on c.args.self.now in
    elim c.if-is_known.branch [
      | then-is_known w ↦
          AreCounted-one_more p c.args.first c.loop-number.number c.loop-number.known c.if-is_known.known w.known-is
          c.loop-number.invariant
          (ap is_known (sym c.at.ensures) ∙ sym c.is_known.ensures ∙ w.if-is_known.true)
      | else-is_known w ↦
          AreCounted-one_passed p c.args.first c.loop-number.number c.loop-number.known c.if-is_known.known w.known-is
          c.loop-number.invariant
          (ap is_known (sym c.at.ensures) ∙ sym c.is_known.ensures ∙ w.if-is_known.false)
    ]

pub returns : goal.returns
returns c =
    rw (c.number.ensures.number, c.number-2.ensures.number)
    (AreCounted-all (is_known_on c.args.self.now) c.args.first c.loop-number.number c.loop-number.known c.args.last
    (omega arith) (omega arith)
    c.loop-number.invariant)
