use Rattle.vme_skew.proofs.WorkedAgree.{worked_complete, worked_settle}
use Rattle.vme_skew.proofs.worked_recordings.Goals as goal

pub returns : goal.returns
returns c = record { settle = worked_settle; complete = worked_complete }
