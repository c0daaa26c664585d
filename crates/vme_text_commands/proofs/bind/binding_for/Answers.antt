use Rattle.std.proofs.Common.{◌∙◌, sym}
use Rattle.std.specs.Prelude.{Some}
use Rattle.vme_stream.specs.Answers.{dump_read}
use Rattle.vme_stream.proofs.AnswerLemmas.{dump_read-whole, dump_read-fault}
use Rattle.vme_text_commands.proofs.ToldLemmas.{IsBindingFor-refused}
use Rattle.vme_text_commands.proofs.bind.binding_for.Goals as goal

pub returns-in-Ok : goal.returns-in-Ok
returns-in-Ok g c =
    let (bytes, short, reading, same) = c.in-Ok.ensures.bytes in
    let given = rw c.as_slice.ensures.value at c.binding_of_input.ensures in
    (Some bytes, reading, rw (dump_read-whole bytes short) (given bytes (sym (c.new.ensures bytes) ∙ same)))

pub returns-in-Err : goal.returns-in-Err
returns-in-Err g c =
    let (bytes, reading, refused) = dump_read-fault _ _ c.read_by.result c.in-Err.fault c.in-Err.is
    c.read_by.ensures.read
    c.read_by.ensures.too_long c.read_by.ensures.memory in
    rw c.of_input.ensures (bytes, reading, IsBindingFor-refused (dump_read bytes) c.args.slots c.args.scope _ refused)
