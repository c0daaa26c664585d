-- The steps are counted, deskewed and compared.
use Rattle.std.proofs.Common.{◌≤◌, ◌++◌, length, ap, ◌∙◌, arith, length-append}
use Rattle.vme_trace.specs.Followed.{with_steps}
use Rattle.vme_trace.specs.WellFormed.{capture_limit}
use Rattle.vme_dump_input.proofs.ReadSteps.{settled_so_far-formed}
use Rattle.vme_dump_input.proofs.StepCounts.{IsStepCount-append}
use Rattle.vme_confirm_command.proofs.StepLemmas.{StepsMayFollow-settled_so_far}
use Rattle.vme_confirm_command.proofs.step_check.StepCheck.take.Goals as goal

pub returns-then-count-gt-MOST_STEPS-clause-stepped : goal.returns-then-count-gt-MOST_STEPS-clause-stepped
returns-then-count-gt-MOST_STEPS-clause-stepped g c skew given from t h go =
    let counted = IsStepCount-append given.steps c.args.steps.items c.args.self.now.count c.len.result
    c.saturating_add-count.result h.counted (omega (arith, c.len.ensures)) c.saturating_add-count.ensures in (
      t,
      record {
        counted = counted;
        comes = λ (few : length (given.steps ++ c.args.steps.items) ≤ capture_limit).
            absurd (omega (arith, few, counted, c.if-count-gt-MOST_STEPS.true));
        taken = h.taken;
      },
      λ whole version compared. compared,
    )

pub returns-then-count-gt-MOST_STEPS-clause-comparing : goal.returns-then-count-gt-MOST_STEPS-clause-comparing
returns-then-count-gt-MOST_STEPS-clause-comparing g c whole version h = h

pub check_all-requires : goal.check_all-requires
check_all-requires g c =
    let steps = c.args.steps.items in
    let (skew, given, from, t, h, go) = c.requires in
    let counted = IsStepCount-append given.steps steps c.args.self.now.count c.len.result
    c.saturating_add-count.result h.counted (omega (arith, c.len.ensures)) c.saturating_add-count.ensures in
    let few : length (given.steps ++ steps) ≤ capture_limit = omega (arith, counted, c.if-count-gt-MOST_STEPS.false) in
    let comes = h.comes (omega (arith, few, length-append given.steps steps)) in
    let settled = c.in_ok-settled.ensures.settled skew given t from comes go in (
      t,
      h.taken,
      StepsMayFollow-settled_so_far skew t (with_steps given steps) c.as_slice.result.now few c.args.time
          (ap (with_steps t) c.as_slice.ensures.value ∙ settled)
          (settled_so_far-formed skew c.args.time (with_steps given steps) go.go.whole go.go.formed),
    )

pub returns-clause-stepped : goal.returns-clause-stepped
returns-clause-stepped g c skew given from t h go =
    let steps = c.args.steps.items in
    let counted = IsStepCount-append given.steps steps c.args.self.now.count c.len.result
    c.saturating_add-count.result h.counted (omega (arith, c.len.ensures)) c.saturating_add-count.ensures in
    let few : length (given.steps ++ steps) ≤ capture_limit = omega (arith, counted, c.if-count-gt-MOST_STEPS.false) in
    let comes = h.comes (omega (arith, few, length-append given.steps steps)) in
    let made = c.in_ok-settled.ensures.comes skew given t from comes go in (
      with_steps t c.as_slice.result.now,
      record {
        counted = counted;
        comes = λ _. rw c.as_slice.ensures.value made;
        taken = c.check_all.ensures.taken t h.taken;
      },
      λ whole version compared. c.check_all.ensures.compared whole version t h.taken compared,
    )

pub returns-clause-comparing : goal.returns-clause-comparing
returns-clause-comparing g c whole version h = record {
  t = with_steps h.t c.as_slice.result.now;
  taken = c.check_all.ensures.taken h.t h.taken;
  compared = c.check_all.ensures.compared whole version h.t h.taken h.compared;
}
