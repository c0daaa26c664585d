use Rattle.vme_text_commands.proofs.bind.bind.Goals as goal

pub returns : goal.returns
returns g c =
    let (bytes, read, is_for) = c.binding_for-made.ensures in
    let (more, tells, ends) = c.tell_binding.ensures in
    (bytes, c.binding_for-made.result, more, read, is_for, tells, ends)
