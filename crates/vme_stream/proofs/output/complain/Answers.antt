use Rattle.vme_stream.proofs.output.complain.Goals as goal

pub returns : goal.returns
returns g c = rw c.as_bytes.ensures at c.say.ensures
