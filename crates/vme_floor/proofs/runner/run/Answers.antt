-- The claims of `run` follow from those of `run_deliveries`.
use Rattle.std.proofs.Common.{◌≡◌, ◌≢◌, ℕ, List, Result, Ok, Err, sym, subst}
use Rattle.std.specs.Prelude.{IfErr, IfOk}
use Rattle.vme_trace.specs.Verdict.{rules_in_force, verdict_by}
use Rattle.vme_trace.specs.declared.block.Block.{Block}
use Rattle.vme_listing.specs.Recorded.{recorded_rows}
use Rattle.vme_split.specs.Split.{Splits}
use Rattle.vme_split.proofs.Listings.{Splits-listing}
use Rattle.vme_floor.specs.Claims.{IsFault}
use Rattle.vme_floor.specs.declared.report.Report.{Report}
use Rattle.vme_floor.specs.declared.report.RunFault.{RunFault}
use Rattle.vme_floor.specs.declared.report.RunFault.TheVariants.{Stray}
use Rattle.vme_floor.proofs.Cutting.{IsOutcomeOf-result}
use Rattle.vme_floor.proofs.runner.run.Goals as goal

-- if the verdict of a report is that of its recording, the recording's rows split its edges
Splits-of_report : (r : Result Report RunFault) → IfOk r (λ x. x.verdict ≡ verdict_by rules_in_force x.capture)
    → IfOk r (λ x. Splits x.capture x.verdict (recorded_rows x.capture))
Splits-of_report (Ok x) is = subst (λ v. Splits x.capture v (recorded_rows x.capture)) (sym is)
    (Splits-listing x.capture)
Splits-of_report (Err fault) is = tt

pub returns-clause-split : goal.returns-clause-split
returns-clause-split g c = Splits-of_report c.run_deliveries.result c.run_deliveries.ensures.verdict

-- a fault that satisfies `IsFault` isn't `Stray`
not_Stray-of_fault : (total : ℕ) (deliveries : List Block) (workers : ℕ) (r : Result Report RunFault)
    → IfErr r (λ f. IsFault total deliveries workers f) → IfErr r (λ f. f ≢ Stray)
not_Stray-of_fault total deliveries workers (Ok x) is = tt
not_Stray-of_fault total deliveries workers (Err f) is =
    λ stray. subst (λ (f : RunFault). IsFault total deliveries workers f)
    stray is

pub returns-clause-accounted : goal.returns-clause-accounted
returns-clause-accounted g c = not_Stray-of_fault c.args.total c.args.deliveries.now c.args.workers
    c.run_deliveries.result
    c.run_deliveries.ensures.refusals

pub returns-clause-cut : goal.returns-clause-cut
returns-clause-cut g c t blocks cut are range =
    let done = c.run_deliveries.ensures in
    IsOutcomeOf-result t c.args.total c.args.workers blocks c.args.deliveries.now cut are range c.run_deliveries.result
    done.answers done.recorded done.verdict done.refusals
