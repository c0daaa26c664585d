use Rattle.std.proofs.Common.{Err, subst}
use Rattle.std.proofs.lemmas.Result.{err_from_is_err_and}
use Rattle.vme_audit_command.specs.LastLines.{WritesOutcome, outcome_line_of}
use Rattle.vme_audit_command.proofs.LastLemmas.{WritesOutcome-unwritten, WritesOutcome-written}
use Rattle.vme_audit_command.proofs.dump_audit.write_outcome.Goals as goal

pub returns : goal.returns
returns g c = λ formed.
    let old = g.O.Sink.writing c.args.out.now in
    let new = g.O.Sink.writing c.write_outcome_line.new.out in
    let head = c.args.head.now in
    let o = c.outcome-outcome.result in
    subst (λ p. WritesOutcome (outcome_line_of head p) p old new c.end_case.result) (c.outcome-outcome.ensures formed)
    (WritesOutcome-written o old new (outcome_line_of head o) c.end_case.result c.in_ok-write_outcome_line.ensures
    c.end_case.ensures.ok c.end_case.ensures.err)

pub returns-in_err-write_outcome_line : goal.returns-in_err-write_outcome_line
returns-in_err-write_outcome_line g c =
    let fault = c.in_err-write_outcome_line.field-0.0 in
    let old = g.O.Sink.writing c.args.out.now in
    let new = g.O.Sink.writing c.write_outcome_line.new.out in
    let head = c.args.head.now in
    let o = c.outcome-outcome.result in
    let e = err_from_is_err_and c.from_residual.result c.from_residual.ensures.1 in
    rw (e.1, e.2)
    (λ formed. subst (λ p. WritesOutcome (outcome_line_of head p) p old new (Err fault))
    (c.outcome-outcome.ensures formed)
    (WritesOutcome-unwritten (Unit {0}) o old new (outcome_line_of head o) fault c.in_err-write_outcome_line.ensures))
