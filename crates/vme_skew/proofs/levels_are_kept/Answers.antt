use Rattle.vme_skew.proofs.Laws.{levels_after-groups}
use Rattle.vme_skew.proofs.levels_are_kept.Goals as goal

pub returns : goal.returns
returns c = levels_after-groups
