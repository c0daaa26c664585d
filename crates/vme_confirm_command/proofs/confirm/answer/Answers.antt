use Rattle.vme_confirm_command.proofs.confirm.answer.Goals as goal

pub returns : goal.returns
returns g c =
    let (binding, dump, listing, given, binding_reading, dump_reading, listing_reading, rows, answered)
    = c.comparison-found.ensures in (
      binding,
      dump,
      listing,
      given,
      c.comparison-found.result.0,
      binding_reading,
      dump_reading,
      listing_reading,
      rows,
      answered,
      c.tell.ensures,
    )
