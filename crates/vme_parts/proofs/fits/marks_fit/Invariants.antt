-- The loop over marks: if those that are left fit, from the instant of the last one so far on, all fit.
use Rattle.std.proofs.Common.{drop}
use Rattle.vme_part_format.specs.Bounds.{FitMarks}
use Rattle.vme_parts.proofs.fits.marks_fit.Given as goal

abbrev pub invariant-loop-mark : goal.invariant-loop-mark
invariant-loop-mark l = FitMarks l.steps l.before (drop l.mark-index l.marks) → FitMarks l.steps 0 l.marks
