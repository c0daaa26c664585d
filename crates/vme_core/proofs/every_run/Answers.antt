use Rattle.vme_core.proofs.every_run.Goals as goal
use Rattle.vme_core.proofs.Runs.{Invariant-run, Invariant-start}
use Rattle.vme_core.proofs.Owners.{IsRightStep-event}
use Rattle.vme_core.proofs.Laws.{IsLawful-Invariant, OnlyGrows-run}
use Rattle.vme_core.specs.Machine.{start}

pub returns-clause-lawful : goal.returns-clause-lawful
returns-clause-lawful c total draws s run = IsLawful-Invariant total s
    (Invariant-run total draws run.0 start s (Invariant-start total) run.1)

pub returns-clause-steps : goal.returns-clause-steps
returns-clause-steps c total draws s t run step = IsRightStep-event total s
    (Invariant-run total draws run.0 start s (Invariant-start total)
    run.1) draws step.0 t step.1

pub returns-clause-grows : goal.returns-clause-grows
returns-clause-grows c total draws s t run later = OnlyGrows-run total draws later.0 s t
    (Invariant-run total draws run.0 start
    s (Invariant-start total) run.1) later.1
