use Rattle.std.proofs.Common.{Bool, subst, sym}
use Rattle.vme_part_command.specs.PartAnswers.{ComplainsUnlessMemory, refusing}
use Rattle.vme_part_command.specs.Lines.{input_text, marks_text}
use Rattle.vme_part_command.proofs.inputs.refuse_marks.Goals as goal

pub returns-then-has_marks : goal.returns-then-has_marks
returns-then-has_marks g c =
    subst (λ (b : Bool). ComplainsUnlessMemory (refusing (input_text c.args.name.now (marks_text b)))
    (g.E.Sink.writing c.args.err.now, g.E.Sink.writing c.tell_input.new.err) c.tell_input.result)
    (sym c.if-has_marks.true) c.tell_input.ensures

pub returns-else-has_marks : goal.returns-else-has_marks
returns-else-has_marks g c =
    let told = c.tell_input-else-has_marks in
    subst (λ (b : Bool). ComplainsUnlessMemory (refusing (input_text c.args.name.now (marks_text b)))
    (g.E.Sink.writing c.args.err.now, g.E.Sink.writing told.new.err) told.result)
    (sym c.if-has_marks.false) told.ensures
