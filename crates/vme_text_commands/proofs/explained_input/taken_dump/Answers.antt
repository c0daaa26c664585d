use Rattle.std.proofs.Common.{◌∙◌, sym}
use Rattle.std.specs.Prelude.{Some}
use Rattle.vme_stream.specs.Answers.{dump_read}
use Rattle.vme_stream.proofs.AnswerLemmas.{dump_read-whole, dump_read-fault, recording_by-refused}
use Rattle.vme_text_commands.proofs.explained_input.taken_dump.Goals as goal

pub returns-in-Ok : goal.returns-in-Ok
returns-in-Ok g c =
    let (bytes, short, reading, same) = c.in-Ok.ensures.bytes in
    let ahead = sym (c.new-input.ensures bytes) ∙ same in
    let given = rw c.as_slice.ensures.value at c.taken_input.ensures.gives in
    let formed = rw c.as_slice.ensures.value at c.taken_input.ensures.formed in
    record {
      gives = (Some bytes, reading, rw (dump_read-whole bytes short) (given c.args.binding.now bytes ahead));
      formed = formed c.args.binding.now bytes ahead;
    }

pub returns-in-Err-clause-gives : goal.returns-in-Err-clause-gives
returns-in-Err-clause-gives g c =
    let (bytes, reading, refused) = dump_read-fault _ _ c.read_by.result c.in-Err.fault c.in-Err.is
    c.read_by.ensures.read
    c.read_by.ensures.too_long c.read_by.ensures.memory in
    rw c.of_input.ensures (bytes, reading, recording_by-refused c.args.binding.now (dump_read bytes) _ refused)
