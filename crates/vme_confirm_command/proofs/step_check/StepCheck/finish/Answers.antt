-- The last steps are counted, deskewed and compared, and the check ends.
use Rattle.std.proofs.Common.{◌≡◌, ◌≤◌, ◌<◌, ◌++◌, length, ap, subst, ◌∙◌, arith, length-append}
use Rattle.vme_trace.specs.Followed.{with_steps}
use Rattle.vme_trace.specs.Trace.{Trace}
use Rattle.vme_trace.specs.WellFormed.{capture_limit}
use Rattle.vme_cert.specs.Checking.{HasCompared, HasFollowed}
use Rattle.vme_dump_input.specs.SettledReadings.{settled_whole}
use Rattle.vme_dump_input.proofs.ReadSteps.{settled_whole-formed}
use Rattle.vme_dump_input.proofs.StepCounts.{IsStepCount-append}
use Rattle.vme_stream.proofs.AnswerLemmas.{limited-few_steps, limited-many_steps}
use Rattle.vme_confirm_command.proofs.StepLemmas.{StepsMayFollow-settled_whole}
use Rattle.vme_confirm_command.proofs.step_check.StepCheck.finish.Goals as goal

pub returns-then-total-gt-MOST_STEPS-clause-finds : goal.returns-then-total-gt-MOST_STEPS-clause-finds
returns-then-total-gt-MOST_STEPS-clause-finds g c whole version skew given from t h compared go =
    let steps = c.args.steps.items in
    let counted = IsStepCount-append given.steps steps c.args.self.count c.len.result c.saturating_add-total.result
    h.counted (omega (arith, c.len.ensures)) c.saturating_add-total.ensures in
    let over = c.if-total-gt-MOST_STEPS.true in
    let many : capture_limit < length (given.steps ++ steps) = omega (arith, counted, over) in (
      limited-many_steps (with_steps given steps) many,
      c.into_source.ensures whole version (record { t = t; taken = h.taken; compared = compared }),
    )

pub returns-then-total-gt-MOST_STEPS-clause-left : goal.returns-then-total-gt-MOST_STEPS-clause-left
returns-then-total-gt-MOST_STEPS-clause-left g c whole version h = c.into_source.ensures whole version h

pub returns-in-Err-clause-left : goal.returns-in-Err-clause-left
returns-in-Err-clause-left g c whole version h = c.into_source-in-Err.ensures whole version h

pub check_all-requires : goal.check_all-requires
check_all-requires g c =
    let steps = c.args.steps.items in
    let (skew, given, from, t, h, go) = c.requires in
    let counted = IsStepCount-append given.steps steps c.args.self.count c.len.result c.saturating_add-total.result
    h.counted (omega (arith, c.len.ensures)) c.saturating_add-total.ensures in
    let few : length (given.steps ++ steps) ≤ capture_limit = omega (arith, counted, c.if-total-gt-MOST_STEPS.false) in
    let comes = h.comes (omega (arith, few, length-append given.steps steps)) in
    let settled = c.in-Ok.ensures skew given t from comes go in (
      t,
      h.taken,
      StepsMayFollow-settled_whole skew t (with_steps given steps) c.as_slice.result.now few
          (ap (with_steps t) c.as_slice.ensures.value ∙ settled)
          (settled_whole-formed skew (with_steps given steps) go.whole go.formed),
    )

pub finish-answer-requires : goal.finish-answer-requires
finish-answer-requires g c =
    let (skew, given, from, t, h, go) = c.requires in
    (with_steps t c.as_slice.result.now, c.check_all.ensures.taken t h.taken)

pub returns-in-Ok-clause-finds : goal.returns-in-Ok-clause-finds
returns-in-Ok-clause-finds g c whole version skew given from t h compared go =
    let steps = c.args.steps.items in
    let counted = IsStepCount-append given.steps steps c.args.self.count c.len.result c.saturating_add-total.result
    h.counted (omega (arith, c.len.ensures)) c.saturating_add-total.ensures in
    let few : length (given.steps ++ steps) ≤ capture_limit = omega (arith, counted, c.if-total-gt-MOST_STEPS.false) in
    let comes = h.comes (omega (arith, few, length-append given.steps steps)) in
    let settled = c.in-Ok.ensures skew given t from comes go in
    let is : with_steps t c.as_slice.result.now ≡ settled_whole skew (with_steps given steps) =
    ap (with_steps t) c.as_slice.ensures.value ∙ settled in
    let checker = c.check_all.new.checker in (
      limited-few_steps (with_steps given steps) few,
      c.finish-answer.ensures whole version (settled_whole skew (with_steps given steps))
          (subst (λ (u : Trace). HasFollowed u checker) is (c.check_all.ensures.taken t h.taken))
          (subst (λ (u : Trace). HasCompared g.S.RowSource.gave g.S.RowSource.is_over whole version u checker) is
          (c.check_all.ensures.compared whole version t h.taken compared)),
    )

pub returns-in-Ok-clause-left : goal.returns-in-Ok-clause-left
returns-in-Ok-clause-left g c whole version h =
    let found = c.finish-answer.ensures whole version (with_steps h.t c.as_slice.result.now)
    (c.check_all.ensures.taken h.t h.taken) (c.check_all.ensures.compared whole version h.t h.taken h.compared) in
    (found.0, found.1)
