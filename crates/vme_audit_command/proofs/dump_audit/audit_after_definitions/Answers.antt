use Rattle.std.proofs.Common.{ℕ, [], sym}
use Rattle.vme_step_reader.specs.StepReading.{whole_reading}
use Rattle.vme_dump_input.specs.SettledReadings.{skew_of}
use Rattle.vme_dump_input.proofs.FirstSteps.{ComesOut-no_step}
use Rattle.vme_audit_command.proofs.AnswerLemmas.{AnswersBody-outcome, AnswersBody-no_outcome, HasGiven-first}
use Rattle.vme_audit_command.proofs.AnswerLemmas.{lines_of-none}
use Rattle.vme_audit_command.proofs.ReadLemmas.{CountsUnread-or_not_written, CountsUnread-retyped}
use Rattle.vme_audit_command.proofs.dump_audit.audit_after_definitions.Goals as goal

pub returns-in-Ok-clause-answers : goal.returns-in-Ok-clause-answers
returns-in-Ok-clause-answers g c = λ begun.
    let first = c.first_audit-auditor.result in
    let later = c.audit_rest.new.auditor in
    let head = c.args.head.now in
    let skew = skew_of c.args.options.skew in
    let h = HasGiven-first skew c.settler_for-settler.result first c.args.reader
    (ComesOut-no_step c.args.options.skew c.opening.result.now (whole_reading c.args.reader []).time c.args.reader.given
    (sym c.opening.ensures) begun.nothing c.settler_for-settler.result c.settler_for-settler.ensures)
    (c.first_audit-auditor.ensures.given begun.nothing) c.first_audit-auditor.ensures.few
    c.first_audit-auditor.ensures.whole begun in
    let kept = c.in-Ok.ensures.kept skew h in
    rw c.or_not_written.ensures
    (AnswersBody-outcome c.args.options.allowances.now c.args.options.stop c.args.options.skew c.args.options.transfers
    c.args.options.is_quiet
    head first
    later c.first_audit-auditor.ensures.allowances c.first_audit-auditor.ensures.stop
    (lines_of-none head first c.first_audit-auditor.ensures.nothing) c.args.reader c.args.input.now c.args.is_more
    (g.D.Source.reading c.args.dump.now) (g.O.Sink.writing c.args.out.now) (g.O.Sink.writing c.audit_rest.new.out)
    (g.O.Sink.writing c.write_counts_and_outcome.new.out) c.write_counts_and_outcome.result kept
    (c.in-Ok.ensures.audits skew h) (c.write_counts_and_outcome.ensures kept.formed))

pub returns-clause-answers : goal.returns-clause-answers
returns-clause-answers g c = λ begun.
    let first = c.first_audit-auditor.result in
    let later = c.audit_rest.new.auditor in
    let head = c.args.head.now in
    let skew = skew_of c.args.options.skew in
    let h = HasGiven-first skew c.settler_for-settler.result first c.args.reader
    (ComesOut-no_step c.args.options.skew c.opening.result.now (whole_reading c.args.reader []).time c.args.reader.given
    (sym c.opening.ensures) begun.nothing c.settler_for-settler.result c.settler_for-settler.ensures)
    (c.first_audit-auditor.ensures.given begun.nothing) c.first_audit-auditor.ensures.few
    c.first_audit-auditor.ensures.whole begun in
    AnswersBody-no_outcome c.args.options.allowances.now c.args.options.stop c.args.options.skew
    c.args.options.transfers
    c.args.options.is_quiet
    head first
    later c.first_audit-auditor.ensures.allowances c.first_audit-auditor.ensures.stop
    (lines_of-none head first c.first_audit-auditor.ensures.nothing) c.args.reader c.args.input.now c.args.is_more
    (g.D.Source.reading c.args.dump.now) (g.O.Sink.writing c.args.out.now) (g.O.Sink.writing c.audit_rest.new.out)
    c.in-Err.why (c.in-Err.ensures.audits skew h)

pub returns-in-Ok-clause-unread : goal.returns-in-Ok-clause-unread
returns-in-Ok-clause-unread g c =
    rw c.or_not_written.ensures
    (CountsUnread-or_not_written (g.D.Source.reading c.args.dump.now) (g.D.Source.reading c.audit_rest.new.dump)
    c.write_counts_and_outcome.result c.in-Ok.ensures.unread)

pub returns-clause-unread : goal.returns-clause-unread
returns-clause-unread g c =
    CountsUnread-retyped (Unit {0}) ℕ (g.D.Source.reading c.args.dump.now) (g.D.Source.reading c.audit_rest.new.dump)
    c.in-Err.why c.in-Err.ensures.unread
