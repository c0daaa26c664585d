use Rattle.vme_split.proofs.Versions.{Splits-rows_in}
use Rattle.vme_split.proofs.older_listings_split.Goals as goal

pub returns : goal.returns
returns c version t = Splits-rows_in version t
