use Rattle.std.proofs.Common.{◌≤◌, length, rules}
use Rattle.std.proofs.lemmas.List.{places}
use Rattle.std.specs.Prelude.{Some}
use Rattle.vme_stream.specs.Answers.{dump_read}
use Rattle.vme_stream.specs.Inputs.{longest_input}
use Rattle.vme_stream.proofs.AnswerLemmas.{dump_read-whole, dump_read-fault}
use Rattle.vme_text_commands.proofs.ToldLemmas.{IsTextOf-refused}
use Rattle.vme_text_commands.proofs.variables.variables_from.Goals as goal

pub returns-in-Ok : goal.returns-in-Ok
returns-in-Ok g c =
    let given = rw c.as_slice.ensures.value at c.variables_in.ensures in
    let short : length c.in-Ok.text.items ≤ longest_input = search (rules, places) in
    (Some c.in-Ok.text.items, c.in-Ok.ensures.bytes, rw (dump_read-whole c.in-Ok.text.items short) given)

pub returns-in-Err : goal.returns-in-Err
returns-in-Err g c =
    let (bytes, reading, refused) = dump_read-fault _ _ c.read_all.result c.in-Err.fault c.in-Err.is
    c.read_all.ensures.read c.read_all.ensures.too_long c.read_all.ensures.memory in
    rw c.of_input.ensures (bytes, reading, IsTextOf-refused (dump_read bytes) _ refused)
