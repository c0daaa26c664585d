use Rattle.vme_chains.proofs.AcknowledgeJudges.{acknowledge_first_break, acknowledge_marks}
use Rattle.vme_chains.proofs.acknowledge.acknowledge_over_recordings.Goals as goal

pub returns-clause-first_break : goal.returns-clause-first_break
returns-clause-first_break c = acknowledge_first_break

pub returns-clause-marks : goal.returns-clause-marks
returns-clause-marks c = acknowledge_marks
