-- What a summary finds from an opening is what it finds after no steps.
use Rattle.std.proofs.Common.{[], refl}
use Rattle.vme_summary.proofs.summary.MonitorSummaries.found_from.Goals as goal

pub returns : goal.returns
returns c = λ x finds. c.found_after.ensures c.args.opening.now [] x refl c.at.ensures finds
