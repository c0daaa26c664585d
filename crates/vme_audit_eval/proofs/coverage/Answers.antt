use Rattle.vme_audit_eval.proofs.CoverageAgree.{coverage_agrees}
use Rattle.vme_audit_eval.proofs.coverage.Goals as goal

pub returns : goal.returns
returns c = coverage_agrees
