use Rattle.vme_stream.proofs.output.tell_refusal.Goals as goal

pub returns-clause-told : goal.returns-clause-told
returns-clause-told g c = rw c.refusal_line.ensures at c.complain.ensures
