use Rattle.vme_account.proofs.FollowLemmas.{follows-first}
use Rattle.vme_account.proofs.followed_steps.FollowedSteps.at_opening.Goals as goal

pub returns : goal.returns
returns c = follows-first c.args.opening.now c.new.result c.at.result c.at_opening.result c.at_opening-2.result
    c.new.ensures.before c.new.ensures.after c.at.ensures c.at_opening.ensures
