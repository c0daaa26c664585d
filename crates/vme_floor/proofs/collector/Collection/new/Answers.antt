use Rattle.std.proofs.Common.{refl}
use Rattle.vme_floor.proofs.Collecting.{IsCollected-first}
use Rattle.vme_floor.proofs.collector.Collection.new.Goals as goal

pub returns : goal.returns
returns c v none = IsCollected-first c.args.total v _ refl c.in_ok-new.ensures.empty refl none
