use Rattle.std.proofs.Common.{◌≡◌, ◌+◌, ◌-◌}
use Rattle.vme_trace.specs.Trace.{Trace, levels_at}
use Rattle.vme_account.specs.RecentSteps.{AreRecent, levels_of}
use Rattle.vme_account.proofs.recent_steps.RecentSteps.levels_from.Given as goal

abbrev pub invariant-loop-instant : goal.invariant-loop-instant
invariant-loop-instant l = (t : Trace) → AreRecent l.self t → (l.lines ≡ levels_at t l.instant)
    × (l.levels.items ≡ levels_of t l.first (l.instant - l.first + 1))
