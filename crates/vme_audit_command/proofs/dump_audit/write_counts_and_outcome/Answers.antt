use Rattle.std.proofs.lemmas.Result.{err_from_is_err_and}
use Rattle.vme_audit.specs.Covered.{outcome as outcome_of}
use Rattle.vme_step_auditor.specs.ReadBy.{read_of}
use Rattle.vme_audit_command.specs.LastLines.{counts_unless, outcome_line_of}
use Rattle.vme_audit_command.proofs.LastLemmas.{WritesOutcome-after_text, WritesOutcome-unreached}
use Rattle.vme_audit_command.proofs.dump_audit.write_counts_and_outcome.Goals as goal

pub returns : goal.returns
returns g c = λ formed.
    let audit = c.args.auditor.now in
    let o = outcome_of audit.allowances c.args.options.transfers (read_of audit) in
    WritesOutcome-after_text o (g.O.Sink.writing c.args.out.now) (g.O.Sink.writing c.write_counts.new.out)
    (g.O.Sink.writing c.write_outcome.new.out)
    (counts_unless c.args.options.is_quiet audit.allowances c.args.head.now (read_of audit))
    (outcome_line_of c.args.head.now o) c.write_outcome.result (c.in_ok-write_counts.ensures formed)
    (c.write_outcome.ensures formed)

pub returns-in_err-write_counts : goal.returns-in_err-write_counts
returns-in_err-write_counts g c =
    let audit = c.args.auditor.now in
    let o = outcome_of audit.allowances c.args.options.transfers (read_of audit) in
    let e = err_from_is_err_and c.from_residual.result c.from_residual.ensures.1 in
    rw (e.1, e.2)
    (λ formed. WritesOutcome-unreached (Unit {0}) o (g.O.Sink.writing c.args.out.now)
    (g.O.Sink.writing c.write_counts.new.out)
    (counts_unless c.args.options.is_quiet audit.allowances c.args.head.now (read_of audit))
    (outcome_line_of c.args.head.now o) c.in_err-write_counts.field-0.0 (c.in_err-write_counts.ensures formed))
