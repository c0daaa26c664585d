use Rattle.std.proofs.Common.{◌∙◌}
use Rattle.std.specs.Prelude.{take}
use Rattle.vme_trace.specs.Trace.{recorded}
use Rattle.vme_account.proofs.StoredLemmas.{time_at-cut}
use Rattle.vme_account.proofs.stored_steps.StoredSteps.time_at.Goals as goal

pub returns : goal.returns
returns c = λ t kept within.
    c.time_at.ensures (recorded t.opening (take c.args.self.now.end t.steps)) kept.recent
    ∙ time_at-cut t c.args.self.now.end c.args.instant within
