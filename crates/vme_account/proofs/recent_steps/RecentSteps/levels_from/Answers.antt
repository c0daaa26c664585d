use Rattle.vme_account.proofs.RecentLemmas.{levels_of-next}
use Rattle.vme_account.proofs.recent_steps.RecentSteps.levels_from.Goals as goal

pub loop-instant-preserved : goal.loop-instant-preserved
loop-instant-preserved c = λ t recent.
    let before = c.loop-instant.invariant t recent in
    let next = c.advance.ensures t recent before.0 in (
      next,
      rw c.in_ok-push-2.ensures.items
          (levels_of-next t c.args.first c.loop-instant.instant c.loop-instant.levels.items c.advance.new.lines
          c.loop-instant.auto.instant before.1 next),
    )
