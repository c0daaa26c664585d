use Rattle.std.proofs.Common.{arith}
use Rattle.vme_trace.specs.Verdict.{verdict_by, rules_in_force}
use Rattle.vme_pod_check.specs.Deliveries.{AreDeliveries}
use Rattle.vme_pod_check.proofs.Contents.{NeedsThreads-of_outcome, MayCome-of_outcome, verdict-of_report}
use Rattle.vme_pod_check.proofs.judge.verdict_on_blocks.Goals as goal

pub verdict_of-requires : goal.verdict_of-requires
verdict_of-requires g c =
    let delivered : AreDeliveries c.args.blocks.items c.as_slice.result.now = rw c.as_slice.ensures.value
    c.in-Ok.ensures.delivered in
    MayCome-of_outcome c.args.blocks.items c.as_slice.result.now c.len-total.result c.args.plan.workers
    c.run-outcome.result
    (omega arith) (omega arith) (omega arith) c.requires.workers.0 c.requires.workers.1 c.requires.join delivered
    c.run-outcome.ensures.refusals

pub returns-in-Ok-clause-exact : goal.returns-in-Ok-clause-exact
returns-in-Ok-clause-exact g c = λ t joined.
    let delivered : AreDeliveries c.args.blocks.items c.as_slice.result.now = rw c.as_slice.ensures.value
    c.in-Ok.ensures.delivered in
    c.verdict_of.ensures.exact (verdict_by rules_in_force t)
    (verdict-of_report c.args.blocks.items c.as_slice.result.now c.len-total.result c.run-outcome.result t (omega arith)
    delivered.of joined c.run-outcome.ensures.recorded c.run-outcome.ensures.verdict)

pub returns-in-Ok-clause-alone : goal.returns-in-Ok-clause-alone
returns-in-Ok-clause-alone g c =
    NeedsThreads-of_outcome c.as_slice.result.now c.len-total.result c.args.plan.workers c.run-outcome.result
    c.verdict_of.result
    c.run-outcome.ensures.refusals c.verdict_of.ensures.alone
