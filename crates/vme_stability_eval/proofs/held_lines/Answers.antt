use Rattle.vme_stability_eval.proofs.HeldLinesAgree.{held_lines_agree}
use Rattle.vme_stability_eval.proofs.held_lines.Goals as goal

pub returns : goal.returns
returns c = held_lines_agree
