use Rattle.std.proofs.Common.{subst, ◌∙◌}
use Rattle.vme_audit_command.specs.DumpAudits.{WritesText}
use Rattle.vme_audit_command.proofs.LastLemmas.{WritesPrefix-nothing}
use Rattle.vme_audit_command.proofs.dump_audit.write_outcome_line.Goals as goal

pub returns-in-Ok : goal.returns-in-Ok
returns-in-Ok g c =
    subst (WritesText (g.O.Sink.writing c.args.out.now) (g.O.Sink.writing c.write_text.new.out) c.write_text.result)
    (c.as_bytes.ensures ∙ c.in-Ok.ensures) c.write_text.ensures

pub returns-in-Err : goal.returns-in-Err
returns-in-Err g c = WritesPrefix-nothing (g.O.Sink.writing c.args.out.now) _
