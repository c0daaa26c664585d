use Rattle.std.proofs.Common.{arith, refl}
use Rattle.vme_trace.specs.Trace.{levels_at}
use Rattle.vme_account.proofs.recent_steps.RecentSteps.new.Goals as goal

pub returns : goal.returns
unfolding levels_at
returns c = record {
  levels = refl;
  time_is = refl;
  kept = rw (c.new.ensures.items, c.new-2.ensures.items) refl;
  within = omega arith;
}
