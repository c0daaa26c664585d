-- The steps of a recording that are kept: the last ones up to some instant.
use Rattle.std.specs.Prelude.{◌≡◌, ◌≤◌, List, length, take}
use Rattle.vme_trace.specs.Levels.{Levels}
use Rattle.vme_trace.specs.declared.step.Step.{Step}
use Rattle.vme_account.specs.RecentSteps.{AreRecent}
use Rattle.vme_account.specs.declared.stored_steps.StoredSteps.{StoredSteps}

-- `k` has the number of the steps `x` after the opening levels `o`, and keeps the last of them up to instant `k.end`
pub record AreStored (o : Levels) (x : List Step) (k : StoredSteps) : Type 0 where
  pub counted : k.steps ≡ length x
  pub within : k.end ≤ length x
  pub recent : AreRecent k.recent (record { opening = o; steps = take k.end x })
