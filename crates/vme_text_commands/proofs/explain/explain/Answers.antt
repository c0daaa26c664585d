use Rattle.vme_text_commands.proofs.explain.explain.Goals as goal

pub returns-clause-told : goal.returns-clause-told
returns-clause-told g c =
    let (binding, dump, binding_reading, dump_reading, given) = c.explained_from-told.ensures.read in
    let (more, has_more, ends) = c.tell_explained.ensures.told in (
      binding,
      dump,
      c.explained_from-told.result,
      more,
      binding_reading,
      dump_reading,
      given,
      c.explained_from-told.ensures.begins,
      has_more,
      c.tell_explained.ensures.files,
      ends,
    )

pub returns-clause-drawn : goal.returns-clause-drawn
returns-clause-drawn g c = c.tell_explained.ensures.drawn c.explained_from-told.ensures.begins
