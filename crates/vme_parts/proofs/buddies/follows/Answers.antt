use Rattle.vme_parts.proofs.Halves.{None-by_test}
use Rattle.vme_parts.proofs.buddies.follows.Goals as goal

pub returns : goal.returns
returns c =
    λ t. c.torn_file-torn.ensures.follows (None-by_test c.torn_file-torn.result c.is_none.result c.is_none.ensures t)
