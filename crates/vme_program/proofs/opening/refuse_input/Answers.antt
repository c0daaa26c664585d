use Rattle.vme_program.proofs.opening.refuse_input.Goals as goal

pub returns-clause-told : goal.returns-clause-told
returns-clause-told g c = c.tell_refusal.ensures.told
