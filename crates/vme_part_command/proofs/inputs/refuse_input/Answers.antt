use Rattle.std.proofs.Common.{subst, sym}
use Rattle.vme_part_command.specs.PartAnswers.{ComplainsUnlessMemory, refusing, what_is_wrong}
use Rattle.vme_part_command.specs.Lines.{input_text}
use Rattle.vme_part_command.specs.declared.inputs.PartInputFault.{PartInputFault}
use Rattle.vme_part_command.proofs.inputs.refuse_input.Goals as goal

pub returns-in-Unread : goal.returns-in-Unread
returns-in-Unread g c =
    subst (λ (f : PartInputFault). ComplainsUnlessMemory (refusing (input_text c.args.name.now (what_is_wrong f)))
    (g.E.Sink.writing c.args.err.now, g.E.Sink.writing c.tell_input.new.err) c.tell_input.result)
    (sym c.in-Unread.is) c.tell_input.ensures

pub returns-in-TooLong : goal.returns-in-TooLong
returns-in-TooLong g c =
    let told = c.tell_input-in-TooLong in
    subst (λ (f : PartInputFault). ComplainsUnlessMemory (refusing (input_text c.args.name.now (what_is_wrong f)))
    (g.E.Sink.writing c.args.err.now, g.E.Sink.writing told.new.err) told.result)
    (sym c.in-TooLong.is) told.ensures

pub returns-in-Faulty : goal.returns-in-Faulty
returns-in-Faulty g c =
    let told = c.tell_input-in-Faulty in
    subst (λ (f : PartInputFault). ComplainsUnlessMemory (refusing (input_text c.args.name.now (what_is_wrong f)))
    (g.E.Sink.writing c.args.err.now, g.E.Sink.writing told.new.err) told.result)
    (sym c.in-Faulty.is) (rw (c.as_bytes.ensures, c.fault_message-what.ensures) at told.ensures)
