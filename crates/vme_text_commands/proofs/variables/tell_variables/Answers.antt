use Rattle.vme_text_commands.proofs.variables.tell_variables.Goals as goal

pub returns : goal.returns
returns g c =
    let (bytes, read, is_text) = c.variables_from-made.ensures in
    let (more, has_more, ends) = c.tell_or_complain.ensures in
    (bytes, c.variables_from-made.result, more, read, is_text, has_more, ends)
