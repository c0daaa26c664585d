-- A list of ghost steps owns nothing, so it may go to another thread.
use denote.Param.Send.{IsSend, owning_send}
use Rattle.vme_summary.specs.contracts.ghost_steps.GhostSteps.{the_row, the_type}

-- ghost steps may go to another thread
pub send : IsSend the_row
send = owning_send the_type tt (λ d. tt) (λ k x w. tt)
