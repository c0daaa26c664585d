use Rattle.vme_core.proofs.shares_stay_whole.Goals as goal
use Rattle.vme_core.proofs.ShareSums.{IsWholeShare-first, IsWholeShare-swapped, IsWholeShare-split}

pub returns-clause-first : goal.returns-clause-first
returns-clause-first c = IsWholeShare-first

pub returns-clause-swapped : goal.returns-clause-swapped
returns-clause-swapped c s t = IsWholeShare-swapped s t

pub returns-clause-halved : goal.returns-clause-halved
returns-clause-halved c s t = IsWholeShare-split s t
