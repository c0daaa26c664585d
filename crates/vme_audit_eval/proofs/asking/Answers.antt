use Rattle.vme_audit_eval.proofs.AskingAgree.{asking_agrees}
use Rattle.vme_audit_eval.proofs.asking.Goals as goal

pub returns : goal.returns
returns c = asking_agrees
