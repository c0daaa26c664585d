use Rattle.std.proofs.Common.{◌≡◌, IfOk, subst}
use Rattle.vme_dump_input.specs.SettledSteps.{settled_to}
use Rattle.vme_dump_input.proofs.SettlingLemmas.{ComesOut-steps, settled_so_far-steps}
use Rattle.vme_dump_input.proofs.settling.settled_steps.Goals as goal

pub returns-in-Some-clause-comes : goal.returns-in-Some-clause-comes
returns-in-Some-clause-comes c = λ skew given t from h go.
    ComesOut-steps skew c.args.settler.now c.in-Some.settler c.in-Some.is given t from
    c.args.steps.items h (λ made. made.items) c.settle.new.settler c.args.time c.settle.result go
    (subst (λ l. IfOk c.settle.result (λ made. c.settle.new.settler ≡ settled_to c.in-Some.settler l c.args.time
    made.items)) c.deref.ensures.value c.settle.ensures.made) c.settle.ensures.settled

pub returns-in-Some-clause-settled : goal.returns-in-Some-clause-settled
returns-in-Some-clause-settled c = λ skew given t from h go.
    settled_so_far-steps skew c.args.settler.now c.in-Some.settler c.in-Some.is given t from
    c.args.steps.items h (λ made. made.items) c.settle.new.settler c.args.time c.settle.result go
    (subst (λ l. IfOk c.settle.result (λ made. c.settle.new.settler ≡ settled_to c.in-Some.settler l c.args.time
    made.items)) c.deref.ensures.value c.settle.ensures.made) c.settle.ensures.settled
