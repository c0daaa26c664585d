use Rattle.std.proofs.Common.{◌∙◌, ◌∷◌, [], arith, length-append, sym}
use Rattle.vme_account.proofs.RecentLemmas.{drop-with_step, levels_at-with_step, time_at-with_step}
use Rattle.vme_account.proofs.recent_steps.RecentSteps.push.Goals as goal

pub returns : goal.returns
returns c = λ t old.
    let r = c.make_room.new.self in
    let recent = c.make_room.ensures t old in
    let step = c.args.step in record {
      levels = recent.levels ∙ sym (levels_at-with_step t step r.first recent.within);
      time_is = recent.time_is ∙ sym (time_at-with_step t step r.first recent.within);
      kept = rw c.in_ok-push.ensures.items
          (drop-with_step t step r.first r.older.items r.newer.items recent.kept recent.within);
      within = omega (arith, recent.within, length-append t.steps (step ∷ []));
    }
