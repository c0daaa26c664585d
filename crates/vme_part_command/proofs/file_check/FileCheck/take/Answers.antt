-- The steps are counted, and judged in batches.
use Rattle.std.proofs.Common.{◌≤◌, List, ◌++◌, length, subst, sym, arith}
use Rattle.vme_trace.specs.Followed.{with_steps}
use Rattle.vme_trace.specs.WellFormed.{capture_limit}
use Rattle.vme_trace.specs.declared.step.Step.{Step}
use Rattle.vme_dump_input.proofs.StepCounts.{IsStepCount-append}
use Rattle.vme_part_command.specs.FileChecks.{IsPending}
use Rattle.vme_part_command.proofs.CheckLemmas.{IsCounted-few, IsPending-append}
use Rattle.vme_part_command.proofs.file_check.FileCheck.take.Goals as goal

pub returns-then-total-gt-MOST_STEPS : goal.returns-then-total-gt-MOST_STEPS
returns-then-total-gt-MOST_STEPS c number listing start t h formed =
    let steps = c.args.steps.items in
    let count = IsStepCount-append t.steps steps c.args.self.count c.len.result c.saturating_add-total.result h.0
    (omega (arith, c.len.ensures)) c.saturating_add-total.ensures in (
      count,
      λ (few : length (t.steps ++ steps) ≤ capture_limit).
          absurd (omega (arith, few, count, c.if-total-gt-MOST_STEPS.true)),
    )

pub judge_batches-requires : goal.judge_batches-requires
judge_batches-requires c =
    let (number, listing, start, t, h, formed) = c.requires in
    let check = c.args.self in
    let steps = c.args.steps.items in
    let counted = IsCounted-few number listing start check t steps c.len.result c.saturating_add-total.result h formed
    (omega (arith, c.len.ensures)) c.saturating_add-total.ensures (omega (arith, c.if-total-gt-MOST_STEPS.false)) in (
      number,
      listing,
      start,
      with_steps t steps,
      subst (λ (l : List Step). IsPending number listing start check.file l (with_steps t steps))
          (sym c.in_ok-append.ensures.items)
          (IsPending-append number listing start check.file check.pending.items t counted.pending steps),
      counted.may,
    )

pub returns : goal.returns
returns c number listing start t h formed =
    let check = c.args.self in
    let steps = c.args.steps.items in
    let counted = IsCounted-few number listing start check t steps c.len.result c.saturating_add-total.result h formed
    (omega (arith, c.len.ensures)) c.saturating_add-total.ensures (omega (arith, c.if-total-gt-MOST_STEPS.false)) in (
      counted.count,
      λ _. c.in_ok-file.ensures number listing start (with_steps t steps)
          (subst (λ (l : List Step). IsPending number listing start check.file l (with_steps t steps))
          (sym c.in_ok-append.ensures.items)
          (IsPending-append number listing start check.file check.pending.items t counted.pending steps))
          counted.may,
    )
