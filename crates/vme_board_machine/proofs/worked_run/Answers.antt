use Rattle.vme_board_machine.proofs.WorkedRun.{worked}
use Rattle.vme_board_machine.proofs.worked_run.Goals as goal

pub returns : goal.returns
returns c b d own = worked b d own
