-- Judging goes on with steps that were summarised by themselves, from the states of the monitors.
use Rattle.std.proofs.Common.{◌+◌, ap}
use Rattle.vme_summary.proofs.Progressing.{HasJudged-append}
use Rattle.vme_summary.proofs.verdict_state.VerdictStateChunkJudge.pass.Goals as goal

pub returns-clause-past : goal.returns-clause-past
returns-clause-past c =
    let j = c.args.self.now in
    HasJudged-append j c.args.chunk_summary _ c.found_after-self.result (ap (λ k. j.steps + k) c.steps.ensures)
    c.found_after-self.ensures
