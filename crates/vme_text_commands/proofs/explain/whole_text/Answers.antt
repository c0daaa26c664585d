use Rattle.vme_text_commands.proofs.explain.whole_text.Goals as goal

pub returns : goal.returns
returns c = (c.in_ok-rest.rest, c.in_ok-rest.ensures, c.in_ok-text.ensures)
