use Rattle.vme_text_commands.proofs.ToldLemmas.{BindsDump-surveyed}
use Rattle.vme_text_commands.proofs.bind.binding_by.Goals as goal

pub returns-in-Ok : goal.returns-in-Ok
returns-in-Ok c bytes surveyed = BindsDump-surveyed bytes c.in-Ok.found.text c.args.slots c.args.scope
    c.args.surveyed.now
    surveyed c.in-Ok.ensures.ok c.in-Ok.ensures.slots c.in-Ok.ensures.scope
