use Rattle.std.proofs.Common.{◌≡◌}
use Rattle.vme_trace.specs.Trace.{Trace, levels_at}
use Rattle.vme_account.specs.RecentSteps.{AreRecent}
use Rattle.vme_account.proofs.recent_steps.RecentSteps.levels_at.Given as goal

abbrev pub invariant-loop-before : goal.invariant-loop-before
invariant-loop-before l = (t : Trace) → AreRecent l.self t → l.lines ≡ levels_at t l.before
