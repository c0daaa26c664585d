use Rattle.vme_audit_eval.proofs.BreaksAgree.{several_breaks_agree}
use Rattle.vme_audit_eval.proofs.several_breaks.Goals as goal

pub returns : goal.returns
returns c = several_breaks_agree
