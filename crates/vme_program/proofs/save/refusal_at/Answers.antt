use Rattle.vme_program.proofs.save.refusal_at.Goals as goal

pub returns : goal.returns
returns g c = (c.entry_at.result, c.entry_at.ensures, c.save_refusal.ensures)
