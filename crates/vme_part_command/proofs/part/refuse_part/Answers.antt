use Rattle.std.proofs.Common.{subst, sym}
use Rattle.std.specs.Prelude.{codes}
use Rattle.vme_trace.specs.Streams.{Writing}
use Rattle.vme_part_command.specs.PartAnswers.{Complains}
use Rattle.vme_part_command.specs.Lines.{refusing_text}
use Rattle.vme_part_command.specs.Written.{no_part_answer}
use Rattle.vme_part_command.specs.declared.no_part.NoPart.{NoPart}
use Rattle.vme_part_command.proofs.EndLemmas.{Complains-refusing}
use Rattle.vme_part_command.proofs.part.refuse_part.Goals as goal

pub returns-in-Refused : goal.returns-in-Refused
returns-in-Refused g c =
    let told = c.tell_refusal in
    let err : Writing × Writing = (g.E.Sink.writing c.args.err.now, g.E.Sink.writing told.new.err) in
    subst (λ (w : NoPart). Complains (no_part_answer w) err told.result) (sym c.in-Refused.is)
    (record { err_is = told.ensures.told; status_is = told.ensures.status })

pub returns-in-OutOfRange : goal.returns-in-OutOfRange
returns-in-OutOfRange g c =
    let err : Writing × Writing = (g.E.Sink.writing c.args.err.now, g.E.Sink.writing c.refuse.new.err) in
    subst (λ (w : NoPart). Complains (no_part_answer w) err c.refuse.result) (sym c.in-OutOfRange.is)
    (Complains-refusing (refusing_text (codes "out of the range of parts")) err c.refuse.result
    (rw c.refusing_line.ensures at c.refuse.ensures.told) c.refuse.ensures.status)
