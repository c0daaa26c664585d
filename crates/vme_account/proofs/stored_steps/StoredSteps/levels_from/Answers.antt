use Rattle.std.proofs.Common.{◌+◌, ◌-◌, ◌∙◌, arith}
use Rattle.std.proofs.lemmas.Result.{IfOk-weaker}
use Rattle.vme_account.proofs.StoredLemmas.{levels_of-cut}
use Rattle.std.specs.Prelude.{take}
use Rattle.vme_trace.specs.Trace.{recorded}
use Rattle.vme_account.proofs.stored_steps.StoredSteps.levels_from.Goals as goal

pub returns-then-first : goal.returns-then-first
returns-then-first c = λ t kept known within.
    IfOk-weaker c.levels_from.result _ _
    (λ levels is. is ∙ levels_of-cut t c.args.self.now.end c.args.first (c.args.last - c.args.first + 1)
    (omega (arith, within, c.requires)))
    (c.levels_from.ensures (recorded t.opening (take c.args.self.now.end t.steps)) kept.recent)
