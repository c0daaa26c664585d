-- Each step is taken.
use Rattle.std.proofs.Common.{List, length, take, refl, sym, subst}
use Rattle.std.proofs.lemmas.Option.{slice_get_read}
use Rattle.vme_trace.specs.Followed.{with_steps}
use Rattle.vme_trace.specs.Trace.{Trace}
use Rattle.vme_trace.specs.declared.step.Step.{Step}
use Rattle.vme_trace.proofs.FollowedLaws.{with_steps-none}
use Rattle.vme_cert.specs.Checking.{HasCompared, HasFollowed}
use Rattle.vme_confirm_command.proofs.StepLemmas.{take-past, MayGoOn-next, with_steps-next}
use Rattle.vme_confirm_command.proofs.step_check.check_all.Goals as goal

pub loop-step-init : goal.loop-step-init
loop-step-init g c = record {
  taken = λ recorded taken.
      subst (λ (u : Trace). HasFollowed u c.args.checker.now) (sym (with_steps-none recorded)) taken;
  compared = λ whole version recorded taken compared.
      subst (λ (u : Trace). HasCompared g.S.RowSource.gave g.S.RowSource.is_over whole version u c.args.checker.now)
      (sym (with_steps-none recorded)) compared;
}

pub take-requires : goal.take-requires
take-requires g c =
    let steps = c.args.steps.now in
    let i = c.loop-step.step-index in
    let step = c.step-item.result in
    let found = slice_get_read steps (length steps) i step refl c.loop-step-test.true c.step-item.is in
    let (recorded, taken, may) = c.requires in (
      with_steps recorded (take i steps),
      c.loop-step.invariant.taken recorded taken,
      MayGoOn-next recorded steps i step found may,
    )

pub loop-step-preserved : goal.loop-step-preserved
loop-step-preserved g c =
    let steps = c.args.steps.now in
    let i = c.loop-step.step-index in
    let step = c.step-item.result in
    let found = slice_get_read steps (length steps) i step refl c.loop-step-test.true c.step-item.is in
    record {
      taken = λ recorded taken.
          subst (λ (u : Trace). HasFollowed u c.take.new.self) (with_steps-next recorded steps i step found)
          (c.take.ensures.taken (with_steps recorded (take i steps)) (c.loop-step.invariant.taken recorded taken));
      compared = λ whole version recorded taken compared.
          subst (λ (u : Trace). HasCompared g.S.RowSource.gave g.S.RowSource.is_over whole version u c.take.new.self)
          (with_steps-next recorded steps i step found)
          (c.take.ensures.compared whole version (with_steps recorded (take i steps))
          (c.loop-step.invariant.taken recorded taken)
          (c.loop-step.invariant.compared whole version recorded taken compared));
    }

pub returns-clause-taken : goal.returns-clause-taken
returns-clause-taken g c recorded taken =
    subst (λ (l : List Step). HasFollowed (with_steps recorded l) c.loop-step.checker)
    (take-past c.args.steps.now c.loop-step.step-index c.loop-step-test.false)
    (c.loop-step.invariant.taken recorded taken)

pub returns-clause-compared : goal.returns-clause-compared
returns-clause-compared g c whole version recorded taken compared =
    subst (λ (l : List Step). HasCompared g.S.RowSource.gave g.S.RowSource.is_over whole version
    (with_steps recorded l) c.loop-step.checker)
    (take-past c.args.steps.now c.loop-step.step-index c.loop-step-test.false)
    (c.loop-step.invariant.compared whole version recorded taken compared)
