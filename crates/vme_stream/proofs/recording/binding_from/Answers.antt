use Rattle.std.proofs.Common.{◌≤◌, length, rules}
use Rattle.std.proofs.lemmas.List.{places}
use Rattle.vme_stream.specs.Inputs.{longest_input}
use Rattle.std.specs.Prelude.{Some}
use Rattle.vme_stream.proofs.AnswerLemmas.{binding_read-fault, binding_read-whole}
use Rattle.vme_stream.proofs.recording.binding_from.Goals as goal

pub returns-in-Ok : goal.returns-in-Ok
returns-in-Ok g c =
    let given = rw c.as_slice.ensures.value at c.binding_in.ensures in
    let short : length c.in-Ok.text.items ≤ longest_input = search (rules, places) in
    (Some c.in-Ok.text.items, c.in-Ok.ensures.bytes, rw (binding_read-whole c.in-Ok.text.items short) given)

pub returns-in-Err : goal.returns-in-Err
returns-in-Err g c =
    rw c.of_input.ensures (binding_read-fault _ _ c.read_all.result c.in-Err.fault c.in-Err.is c.read_all.ensures.read
    c.read_all.ensures.too_long c.read_all.ensures.memory)
