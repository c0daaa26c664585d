use Rattle.vme_skew.proofs.Laws.{settled-zero_skew}
use Rattle.vme_skew.proofs.settled_by_zero.Goals as goal

pub returns : goal.returns
returns c = settled-zero_skew
