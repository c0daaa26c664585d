use Rattle.vme_floor.proofs.SizeCuts.{IsCutOf-blocks}
use Rattle.vme_floor.proofs.cuts.every_size_cuts.Goals as goal

pub returns : goal.returns
returns c t size sound some few = IsCutOf-blocks t size sound some few
