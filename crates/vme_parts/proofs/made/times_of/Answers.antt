use Rattle.std.proofs.Common.{sym}
use Rattle.vme_parts.proofs.OneFile.{last_time-last_step, last_time-no_steps}
use Rattle.vme_parts.proofs.made.times_of.Goals as goal

pub returns-in_default-clause-ends : goal.returns-in_default-clause-ends
returns-in_default-clause-ends c = last_time-no_steps c.args.steps.now (sym c.in_default.ensures.value)

pub returns-clause-ends : goal.returns-clause-ends
returns-clause-ends c = last_time-last_step c.args.steps.now c.in-Some-last.last.now (sym c.in-Some-last.ensures.value)
