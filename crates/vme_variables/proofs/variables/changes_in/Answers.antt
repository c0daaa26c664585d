use Rattle.vme_variables.specs.Counts.{count_change, with_last_instant}
use Rattle.vme_variables.proofs.BodyLemmas.{instants_from-result_fails, instants_from-result_ok}
use Rattle.vme_variables.proofs.variables.changes_in.Goals as goal

pub returns-in-Ok-clause-ok : goal.returns-in-Ok-clause-ok
returns-in-Ok-clause-ok c =
    instants_from-result_ok (λ c net bits. count_change c net) with_last_instant _ c.args.head.now c.in-Ok.zeros
    c.read_body.result
    c.read_body.ensures

pub returns-in-Ok-clause-err : goal.returns-in-Ok-clause-err
returns-in-Ok-clause-err c =
    instants_from-result_fails (λ c net bits. count_change c net) with_last_instant _ c.args.head.now c.in-Ok.zeros
    c.read_body.result
    c.read_body.ensures
