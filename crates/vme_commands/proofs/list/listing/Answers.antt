use Rattle.std.proofs.lemmas.Result.{err_from_is_err_and}
use Rattle.vme_commands.proofs.SettledLemmas.{settled_recording-refused, settled_recording-taken}
use Rattle.vme_commands.proofs.list.listing.Goals as goal

pub returns-in_err-lister : goal.returns-in_err-lister
returns-in_err-lister g c =
    let p = err_from_is_err_and c.from_residual.result c.from_residual.ensures.1 in
    let refusal = c.in_err-lister.field-0.0 in
    let (bound, bytes, bound_reading, reading, refused) = c.in_err-lister.ensures.gives in
    rw (p.1, p.2) (
      bound,
      bytes,
      bound_reading,
      reading,
      settled_recording-refused c.args.skew bound bytes c.args.block refusal refused,
    )

pub returns : goal.returns
returns g c =
    let (bound, bytes, bound_reading, reading, taken) = c.in_ok-lister.ensures.gives in (
      bound,
      bytes,
      bound_reading,
      reading,
      rw (settled_recording-taken c.args.skew bound bytes c.args.block c.in_ok-lister.lister taken)
          (c.listing_of_steps.ensures c.in_ok-lister.ensures.formed),
    )
