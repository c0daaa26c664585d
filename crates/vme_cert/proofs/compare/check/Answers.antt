-- The checker follows each step of the capture, as the step makes the levels of the next instant.
use Rattle.std.proofs.Common.{length, ap, subst, arith}
use Rattle.vme_cert.specs.Vocabulary.{Trace}
use Rattle.vme_cert.specs.Checking.{HasCompared, HasFollowed, at_opening}
use Rattle.vme_cert.proofs.Checking.{slice_get-read_step, recorded_to-next, MayGoOn-recorded_to, recorded_to}
use Rattle.vme_cert.proofs.Checking.{recorded_to-whole}
use Rattle.vme_cert.proofs.compare.check.Goals as goal

pub loop-step-init : goal.loop-step-init
loop-step-init g c =
    let opening = c.opening.ensures.opening in
    record {
      taken = subst (λ l. HasFollowed (at_opening l) c.new-checker.result) opening c.new-checker.ensures.taken;
      compared = λ whole gave.
          subst (λ l. HasCompared g.S.RowSource.gave g.S.RowSource.is_over whole c.args.version (at_opening l)
          c.new-checker.result) opening (c.new-checker.ensures.compared whole gave);
    }

pub take-requires : goal.take-requires
take-requires g c =
    let t = c.args.capture.now in
    let i = c.loop-step.step-index in
    let found = slice_get-read_step t c.steps-step-items.result.now i c.step-item.result
    c.steps-step-items.ensures.steps
    c.loop-step-test.true c.step-item.is in (
      recorded_to t i,
      c.loop-step.invariant.taken,
      MayGoOn-recorded_to t i c.step-item.result c.steps-step-items.ensures.sound found,
    )

pub loop-step-preserved : goal.loop-step-preserved
loop-step-preserved g c =
    let t = c.args.capture.now in
    let i = c.loop-step.step-index in
    let found = slice_get-read_step t c.steps-step-items.result.now i c.step-item.result
    c.steps-step-items.ensures.steps
    c.loop-step-test.true c.step-item.is in
    let on = recorded_to-next t i c.step-item.result found in
    let taken = c.loop-step.invariant.taken in
    record {
      taken = subst (λ (u : Trace). HasFollowed u c.take.new.self) on (c.take.ensures.taken (recorded_to t i) taken);
      compared = λ whole gave.
          subst (λ (u : Trace). HasCompared g.S.RowSource.gave g.S.RowSource.is_over whole c.args.version u
          c.take.new.self) on
          (c.take.ensures.compared whole c.args.version (recorded_to t i) taken
          (c.loop-step.invariant.compared whole gave));
    }

pub finish-requires : goal.finish-requires
finish-requires g c = (recorded_to c.args.capture.now c.loop-step.step-index, c.loop-step.invariant.taken)

pub returns : goal.returns
returns g c whole gave =
    let t = c.args.capture.now in
    let i = c.loop-step.step-index in
    let all = recorded_to-whole t i (omega (
      arith,
      c.loop-step-test.false,
      ap (λ xs. length xs) c.steps-step-items.ensures.steps,
    )) in
    let checker = c.loop-step.checker in
    c.finish.ensures whole c.args.version t
    (subst (λ (u : Trace). HasFollowed u checker) all c.loop-step.invariant.taken)
    (subst (λ (u : Trace). HasCompared g.S.RowSource.gave g.S.RowSource.is_over whole c.args.version u checker) all
    (c.loop-step.invariant.compared whole gave))
