use Rattle.std.specs.Prelude.{Err}
use Rattle.vme_stream.specs.declared.refusal.Refusal.TheVariants.{Memory}
use Rattle.vme_stream.specs.Answers.{binding_read, dump_read}
use Rattle.vme_stream.proofs.InputLemmas.{IsReading-unread}
use Rattle.vme_confirm_command.proofs.ConfirmLemmas.{GivesConfirmation-no_binding}
use Rattle.vme_confirm_command.proofs.confirm.comparison.Goals as goal

pub returns-in-Ok : goal.returns-in-Ok
returns-in-Ok g c =
    let (bound, bound_reading, bound_is) = c.in-Ok.ensures in
    let (dump, listing, given, dump_reading, listing_reading, rows, answered) = c.comparison_bound.ensures in
    (bound, dump, listing, given, bound_reading, dump_reading, listing_reading, rows, rw bound_is answered)

pub returns-in-Err : goal.returns-in-Err
returns-in-Err g c =
    let (bound, bound_reading, refused) = c.in-Err.ensures in
    let dump = IsReading-unread (g.D.Source.reading c.args.dump.now) in
    let listing = IsReading-unread (g.L.Source.reading c.args.listing) in (
      bound,
      dump.0,
      listing.0,
      Err Memory,
      bound_reading,
      dump.1,
      listing.1,
      tt,
      GivesConfirmation-no_binding c.args.skew (binding_read bound)
          (dump_read dump.0) (Err Memory) c.in-Err.refusal refused,
    )
