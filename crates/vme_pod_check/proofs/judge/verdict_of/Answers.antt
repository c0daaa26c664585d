use Rattle.std.specs.Prelude.{Ok}
use Rattle.vme_floor.specs.declared.report.RunFault.TheVariants as fault
use Rattle.vme_pod_check.proofs.CheckLemmas.{Finds-passing, Err-same_fault, Finds-same_verdict}
use Rattle.vme_pod_check.proofs.judge.verdict_of.Goals as goal

pub returns-in-Ok-clause-exact : goal.returns-in-Ok-clause-exact
returns-in-Ok-clause-exact c = λ v is. Finds-same_verdict v c.in-Ok.report.verdict (rw c.in-Ok.is at is)

pub unjudged_by-requires : goal.unjudged_by-requires
unjudged_by-requires c = rw c.in-Err.is at c.requires

pub returns-in-Err-clause-exact : goal.returns-in-Err-clause-exact
returns-in-Err-clause-exact c = λ v is. Finds-passing c.unjudged_by.result (Ok v) c.unjudged_by.ensures.passing

pub returns-in-Err-clause-alone : goal.returns-in-Err-clause-alone
returns-in-Err-clause-alone c = λ is. Err-same_fault c.args.outcome c.in-Err.fault fault.NoWorker c.in-Err.is
    (c.unjudged_by.ensures.alone is)
