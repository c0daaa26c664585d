-- The breaks of a recording grow as those that an audit returns.
use Rattle.vme_auditor.proofs.GrowingBreaks.{All-breaks_within, breaks-no_step, StepBreaks-every}
use Rattle.vme_auditor.proofs.growth.breaks_grow.Goals as goal

pub returns-clause-opening : goal.returns-clause-opening
returns-clause-opening c = breaks-no_step c.first_break_is_found.ensures

pub returns-clause-step : goal.returns-clause-step
returns-clause-step c = StepBreaks-every c.first_break_is_found.ensures

pub returns-clause-within : goal.returns-clause-within
returns-clause-within c = All-breaks_within c.first_break_is_found.ensures
