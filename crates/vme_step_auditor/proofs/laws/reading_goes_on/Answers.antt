-- Each step is read until an audit stops.
use Rattle.vme_step_auditor.proofs.ReadOn.{BreaksGoOn-steps, read_by-unstopped}
use Rattle.vme_step_auditor.proofs.laws.reading_goes_on.Goals as goal

pub returns-clause-all : goal.returns-clause-all
returns-clause-all c = λ allowances stop t h. read_by-unstopped allowances stop t h

pub returns-clause-breaks : goal.returns-clause-breaks
returns-clause-breaks c =
    λ allowances stop t steps ok few.
    BreaksGoOn-steps allowances c.breaks_grow.ensures.step c.breaks_grow.ensures.within stop steps t ok few
