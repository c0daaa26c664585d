-- The pieces so far are cut off the text at token boundaries.
use Rattle.vme_text_workers.proofs.CutLemmas.{IsCutSoFar}
use Rattle.vme_text_workers.proofs.cut.cut.Given as goal

abbrev pub invariant-loop : goal.invariant-loop
invariant-loop l = IsCutSoFar l.fn.text l.pieces.items l.left
