use Rattle.vme_bind.proofs.FollowingLemmas.{reading_ahead-after}
use Rattle.vme_bind.proofs.laws.recorded_before_is_a_prefix.Goals as goal

pub returns : goal.returns
returns c w t opening tokens more = reading_ahead-after t w opening tokens more
