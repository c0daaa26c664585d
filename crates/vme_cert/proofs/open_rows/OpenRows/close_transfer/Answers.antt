use Rattle.std.proofs.Common.{◌∙◌, sym}
use Rattle.vme_cert.proofs.Following.{Follows-lasts}
use Rattle.vme_cert.proofs.open_rows.OpenRows.close_transfer.Goals as goal

pub returns-then-not-strobes_high-clause-rows : goal.returns-then-not-strobes_high-clause-rows
returns-then-not-strobes_high-clause-rows g c whole v done t stretch within h =
    Follows-lasts c.args.bus.now.instant within.is within.judged h
    (sym (c.strobes_high.ensures t within.at) ∙ c.if-not-strobes_high.true)
