use Rattle.vme_skew.proofs.Complete.{settled_until-zero_skew}
use Rattle.vme_skew.proofs.settled_until_by_zero.Goals as goal

pub returns : goal.returns
returns c = settled_until-zero_skew
