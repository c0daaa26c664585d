use Rattle.vme_stream.specs.Answers.{binding_read, dump_read}
use Rattle.vme_stream.proofs.InputLemmas.{IsReading-unread}
use Rattle.vme_part_command.proofs.FoundLemmas.{FindsPart-binding_refused}
use Rattle.vme_part_command.proofs.part.made_part.Goals as goal

pub returns-in-Ok : goal.returns-in-Ok
returns-in-Ok g c =
    let (b, binding_reading, bound_is) = c.in-Ok.ensures in
    let (d, dump_reading, found) = c.part_of_dump.ensures in
    (b, d, binding_reading, dump_reading, rw bound_is found)

pub returns-in-Err : goal.returns-in-Err
returns-in-Err g c =
    let (b, binding_reading, refused) = c.in-Err.ensures in
    let dump = IsReading-unread (g.D.Source.reading c.args.dump.now) in (
      b,
      dump.0,
      binding_reading,
      dump.1,
      FindsPart-binding_refused c.args.options (binding_read b) (dump_read dump.0) c.in-Err.refusal refused,
    )
