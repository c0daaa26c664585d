use Rattle.std.proofs.Common.{◌∙◌, ℕ, Bool, subst}
use Rattle.vme_audit_lines.specs.AuditLines.{head_of}
use Rattle.vme_step_reader.specs.StepReading.{StepReading}
use Rattle.vme_audit_command.specs.Definitions.{IsBodyBegun}
use Rattle.vme_audit_command.specs.DumpAnswers.{AnswersBody}
use Rattle.vme_audit_command.proofs.AnswerLemmas.{AuditsDump-answers, options_by, AuditsDump-no_definitions}
use Rattle.vme_audit_command.proofs.AnswerLemmas.{AuditsDump-no_memory}
use Rattle.vme_audit_command.proofs.ReadLemmas.{CountsUnread-after, CountsUnread-retyped, NoReadFails-refl}
use Rattle.vme_audit_command.proofs.dump_audit.audit_dump.Goals as goal

pub returns-in_default-clause-audits : goal.returns-in_default-clause-audits
returns-in_default-clause-audits g c =
    AuditsDump-no_memory (options_by c.args.options.allowances.now c.args.options.stop c.args.options.skew
    c.args.options.transfers c.args.options.is_quiet)
    (head_of c.args.name.now) c.args.binding.now (g.D.Source.reading c.args.dump.now) (g.O.Sink.writing c.args.out.now)

pub returns-in-Ok-clause-audits : goal.returns-in-Ok-clause-audits
returns-in-Ok-clause-audits g c =
    let options = (options_by c.args.options.allowances.now c.args.options.stop c.args.options.skew
    c.args.options.transfers c.args.options.is_quiet) in
    let u = g.O.Sink.writing c.args.out.now in
    let w = g.O.Sink.writing c.audit_after_definitions.new.out in
    let new = g.D.Source.reading c.read_definitions.new.dump in
    AuditsDump-answers options (head_of c.args.name.now) c.args.binding.now (g.D.Source.reading c.args.dump.now) u new
    c.read_definitions.new.input c.in-Ok.reader c.in-Ok.is_more w c.audit_after_definitions.result c.in-Ok.ensures.reads
    (subst (λ head. IsBodyBegun c.in-Ok.reader → AnswersBody options head c.in-Ok.reader c.read_definitions.new.input
    c.in-Ok.is_more new u w c.audit_after_definitions.result) (c.as_bytes.ensures ∙ c.in-Ok-Ok.ensures)
    c.audit_after_definitions.ensures.answers)

pub returns-clause-audits : goal.returns-clause-audits
returns-clause-audits g c =
    AuditsDump-no_definitions (options_by c.args.options.allowances.now c.args.options.stop c.args.options.skew
    c.args.options.transfers c.args.options.is_quiet)
    (head_of c.args.name.now) c.args.binding.now (g.D.Source.reading c.args.dump.now) (g.O.Sink.writing c.args.out.now)
    (g.D.Source.reading c.read_definitions.new.dump) c.read_definitions.new.input c.in-Err.why c.in-Err.ensures.reads

pub returns-in_default-clause-unread : goal.returns-in_default-clause-unread
returns-in_default-clause-unread g c = NoReadFails-refl (g.D.Source.reading c.args.dump.now)

pub returns-in-Ok-clause-unread : goal.returns-in-Ok-clause-unread
returns-in-Ok-clause-unread g c =
    CountsUnread-after (g.D.Source.reading c.args.dump.now) (g.D.Source.reading c.read_definitions.new.dump)
    (g.D.Source.reading c.audit_after_definitions.new.dump) c.audit_after_definitions.result c.in-Ok.ensures.unread
    c.audit_after_definitions.ensures.unread

pub returns-clause-unread : goal.returns-clause-unread
returns-clause-unread g c =
    CountsUnread-retyped (StepReading × Bool) ℕ (g.D.Source.reading c.args.dump.now)
    (g.D.Source.reading c.read_definitions.new.dump) c.in-Err.why c.in-Err.ensures.unread
