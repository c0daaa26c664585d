use Rattle.vme_skew.proofs.Complete.{settled_until-prefix}
use Rattle.vme_skew.proofs.settled_until_is_prefix.Goals as goal

pub returns : goal.returns
returns c = λ skew time t. settled_until-prefix skew time t
