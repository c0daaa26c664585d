use Rattle.vme_chains.proofs.GrantJudges.{grant_first_break, grant_marks}
use Rattle.vme_chains.proofs.grant.grants_over_recordings.Goals as goal

pub returns-clause-first_break : goal.returns-clause-first_break
returns-clause-first_break c = grant_first_break

pub returns-clause-marks : goal.returns-clause-marks
returns-clause-marks c = grant_marks
