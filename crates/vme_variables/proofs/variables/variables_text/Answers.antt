use Rattle.vme_variables.proofs.BodyLemmas.{dump_of-header_fails, dump_of-result_fails, IsDump-result}
use Rattle.vme_variables.proofs.variables.variables_text.Goals as goal

pub returns-in-Ok-clause-ok : goal.returns-in-Ok-clause-ok
returns-in-Ok-clause-ok c =
    let read = rw c.new.ensures.taken at c.in-Ok.ensures in
    IsDump-result c.args.dump.now _ c.variables_after.result read c.variables_after.ensures.ok

pub returns-in-Ok-clause-err : goal.returns-in-Ok-clause-err
returns-in-Ok-clause-err c =
    let read = rw c.new.ensures.taken at c.in-Ok.ensures in
    dump_of-result_fails c.args.dump.now _ c.variables_after.result read c.variables_after.ensures.err

pub returns-in-Err-clause-err : goal.returns-in-Err-clause-err
returns-in-Err-clause-err c =
    dump_of-header_fails c.args.dump.now c.in-Err.fault (rw c.new.ensures.taken at c.in-Err.ensures)
