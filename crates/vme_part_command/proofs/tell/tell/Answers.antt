use Rattle.std.proofs.Common.{subst, sym}
use Rattle.vme_trace.specs.Streams.{Writing}
use Rattle.vme_stream.specs.Answers.{CommandAnswer}
use Rattle.vme_stream.specs.Ends.{Ends}
use Rattle.vme_part_command.specs.Lines.{told_text}
use Rattle.vme_part_command.proofs.EndLemmas.{Ends-refusing, told_answer-refused}
use Rattle.vme_part_command.proofs.tell.tell.Goals as goal

pub returns-in_default : goal.returns-in_default
returns-in_default g c =
    let said = c.refuse in
    let out : Writing = g.O.Sink.writing c.args.out.now in
    let err : Writing × Writing = (g.E.Sink.writing c.args.err.now, g.E.Sink.writing said.new.err) in
    subst (λ (a : CommandAnswer). Ends a (out, out) err said.result)
    (sym (told_answer-refused c.args.told c.in_default.not-Verdict))
    (Ends-refusing (told_text c.args.told) out err said.result (rw c.told_line.ensures at said.ensures.told)
    said.ensures.status)
