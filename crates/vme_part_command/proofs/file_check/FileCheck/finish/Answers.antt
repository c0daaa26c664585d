-- All steps are counted and judged.
use Rattle.std.proofs.Common.{◌<◌, ◌++◌, length, ap, arith}
use Rattle.vme_stream.specs.Answers.{or_bad_binding}
use Rattle.vme_trace.specs.Followed.{with_steps}
use Rattle.vme_trace.specs.WellFormed.{capture_limit}
use Rattle.vme_dump_input.proofs.StepCounts.{IsStepCount-append}
use Rattle.vme_stream.proofs.AnswerLemmas.{limited-few_steps, limited-many_steps}
use Rattle.vme_part_command.proofs.CheckLemmas.{IsCounted-few}
use Rattle.vme_part_command.proofs.file_check.FileCheck.finish.Goals as goal

pub returns-then-total-gt-MOST_STEPS : goal.returns-then-total-gt-MOST_STEPS
returns-then-total-gt-MOST_STEPS c number listing start t h formed =
    let steps = c.args.steps.items in
    let count = IsStepCount-append t.steps steps c.args.self.count c.len.result c.saturating_add-total.result h.0
    (omega (arith, c.len.ensures)) c.saturating_add-total.ensures in
    let many : capture_limit < length (t.steps ++ steps) = omega (arith, count, c.if-total-gt-MOST_STEPS.true) in
    ap or_bad_binding (limited-many_steps (with_steps t steps) many)

pub judge_all-requires : goal.judge_all-requires
judge_all-requires c =
    let (number, listing, start, t, h, formed) = c.requires in
    let counted = IsCounted-few number listing start c.args.self t c.args.steps.items c.len.result
    c.saturating_add-total.result h formed (omega (arith, c.len.ensures)) c.saturating_add-total.ensures
    (omega (arith, c.if-total-gt-MOST_STEPS.false)) in
    (number, listing, start, t, counted.pending, counted.may)

pub part_in-requires : goal.part_in-requires
part_in-requires c =
    let (number, listing, start, t, h, formed) = c.requires in
    let counted = IsCounted-few number listing start c.args.self t c.args.steps.items c.len.result
    c.saturating_add-total.result h formed (omega (arith, c.len.ensures)) c.saturating_add-total.ensures
    (omega (arith, c.if-total-gt-MOST_STEPS.false)) in (
      number,
      listing,
      start,
      with_steps t c.args.steps.items,
      c.in-Ok.ensures number listing start t counted.pending counted.may,
      formed,
    )

pub returns-in-Ok : goal.returns-in-Ok
returns-in-Ok c number listing start t h formed =
    let all = with_steps t c.args.steps.items in
    let counted = IsCounted-few number listing start c.args.self t c.args.steps.items c.len.result
    c.saturating_add-total.result h formed (omega (arith, c.len.ensures)) c.saturating_add-total.ensures
    (omega (arith, c.if-total-gt-MOST_STEPS.false)) in
    c.part_in.ensures number listing start all (c.in-Ok.ensures number listing start t counted.pending counted.may)
    formed (limited-few_steps all counted.may.few)
