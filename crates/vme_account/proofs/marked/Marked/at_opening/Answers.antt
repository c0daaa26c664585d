use Rattle.std.proofs.Common.{◌∙◌, ap, sym}
use Rattle.vme_trace.specs.Levels.{is_low}
use Rattle.vme_account.proofs.MarkedLemmas.{marked-opening}
use Rattle.vme_account.proofs.marked.Marked.at_opening.Goals as goal

pub returns : goal.returns
returns c =
    c.opened_by.ensures
    ∙ marked-opening c.args.opening.now c.is_idle.result c.is_low.result (sym c.is_idle.ensures)
    (ap is_low (sym c.level.ensures) ∙ sym c.is_low.ensures)
