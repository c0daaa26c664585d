use Rattle.vme_core.specs.Machine.{start}
use Rattle.vme_core.proofs.Runs.{Invariant-run, Invariant-start}
use Rattle.vme_board_machine.specs.Steps.{opened}
use Rattle.vme_board_machine.proofs.Simulation.{ReadsAs-start, Goal-event, RunsAs-run}
use Rattle.vme_board_machine.proofs.board_is_the_machine.Goals as goal

pub returns-clause-begins : goal.returns-clause-begins
returns-clause-begins c = ReadsAs-start

pub returns-clause-steps : goal.returns-clause-steps
returns-clause-steps c total draws s m run shown t e step = Goal-event total draws s m shown
    (Invariant-run total draws run.0 start m (Invariant-start total) run.1) t e step

pub returns-clause-runs : goal.returns-clause-runs
returns-clause-runs c total draws width wide fits es t run = RunsAs-run total draws es (opened width total) t start
    (Invariant-start total) (ReadsAs-start total draws width wide fits) run
