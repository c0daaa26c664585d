use Rattle.std.proofs.Common.{◌∙◌}
use Rattle.vme_account.proofs.StretchLemmas.{moment_before-kept}
use Rattle.vme_account.proofs.stretch_events.StretchEvents.moment_of.Goals as goal

pub returns-in-Some : goal.returns-in-Some
returns-in-Some c = λ t events has kept.
    c.moment_before.ensures
    ∙ moment_before-kept t c.args.self.now c.in-Some.before events c.in-Some.is c.args.other.now.occurrence
    c.args.other.now.event kept
