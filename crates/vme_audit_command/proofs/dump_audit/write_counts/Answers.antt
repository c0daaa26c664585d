use Rattle.std.proofs.Common.{subst, ◌∙◌}
use Rattle.vme_stream.proofs.OutputLemmas.{Writes-nothing}
use Rattle.vme_step_auditor.specs.ReadBy.{read_of}
use Rattle.vme_audit_command.specs.DumpAudits.{WritesText}
use Rattle.vme_audit_command.proofs.LastLemmas.{count_lines-of_recording, WritesPrefix-nothing}
use Rattle.vme_audit_command.proofs.dump_audit.write_counts.Goals as goal

pub returns-then-is_quiet : goal.returns-then-is_quiet
returns-then-is_quiet g c = λ formed. rw c.if-is_quiet.true (Writes-nothing (g.O.Sink.writing c.args.out.now))

pub returns-in-Ok : goal.returns-in-Ok
returns-in-Ok g c = λ formed.
    let audit = c.args.auditor.now in
    let found = c.audited.ensures formed in
    let asked = c.unasked_is_never_asked.ensures c.audited.result.events (read_of audit) found.asked in
    let is = count_lines-of_recording audit.allowances c.args.head.now (read_of audit) c.break_counts.result
    c.audited.result
    (c.break_counts.ensures formed) found asked in
    rw c.if-is_quiet.false
    (subst (WritesText (g.O.Sink.writing c.args.out.now) (g.O.Sink.writing c.write_text.new.out) c.write_text.result)
    (c.as_bytes.ensures ∙ c.in-Ok.ensures ∙ is) c.write_text.ensures)

pub returns-in-Err : goal.returns-in-Err
returns-in-Err g c = λ formed. WritesPrefix-nothing (g.O.Sink.writing c.args.out.now) _
