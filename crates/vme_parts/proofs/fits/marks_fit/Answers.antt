use Rattle.std.proofs.Common.{arith}
use Rattle.vme_parts.proofs.Measures.{FitMarks-next, FitMarks-all}
use Rattle.vme_parts.proofs.fits.marks_fit.Goals as goal

pub loop-mark-preserved : goal.loop-mark-preserved
loop-mark-preserved c =
    let l = c.loop-mark in
    FitMarks-next c.args.steps l.before c.args.marks.now l.mark-index c.mark-item.result (omega arith) c.mark-item.is
    (c.mark_fits.ensures c.if-not-mark_fits.false) l.invariant

pub returns : goal.returns
returns c =
    λ t. FitMarks-all c.args.steps c.loop-mark.before c.args.marks.now c.loop-mark.mark-index
    (omega (arith, c.loop-mark-test.false)) c.loop-mark.invariant
