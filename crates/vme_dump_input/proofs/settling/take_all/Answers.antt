use Rattle.std.proofs.Common.{◌≡◌, [], subst, sym}
use Rattle.vme_dump_input.specs.SettledSteps.{all_taken}
use Rattle.vme_dump_input.proofs.SettlingLemmas.{all_taken-next, all_taken-none}
use Rattle.vme_dump_input.proofs.settling.take_all.Goals as goal

pub loop-step-init : goal.loop-step-init
loop-step-init c =
    subst (λ l. c.args.settler.now ≡ all_taken c.args.settler.now [] l) (sym c.new-settled.ensures.items)
    (all_taken-none c.args.settler.now)

pub loop-step-preserved : goal.loop-step-preserved
loop-step-preserved c =
    all_taken-next c.args.settler.now c.loop-step.settler c.take.new.self c.args.steps.now c.loop-step.settled.items
    c.push_if_some.new.settled.items c.loop-step.step-index c.step-item.result c.in_ok-made.made c.loop-step.invariant
    c.in_ok-made.ensures.taken c.in_ok-push_if_some.ensures c.loop-step-test.true c.step-item.is
