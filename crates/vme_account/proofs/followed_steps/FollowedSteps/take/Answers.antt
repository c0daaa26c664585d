use Rattle.vme_account.proofs.FollowLemmas.{follows-found}
use Rattle.vme_account.proofs.followed_steps.FollowedSteps.take.Goals as goal

pub returns-in-Some : goal.returns-in-Some
returns-in-Some c = λ o x f at. follows-found o x c.args.step.now c.args.self.now _ f c.in-Some.is
