-- All steps are judged.
use Rattle.std.proofs.Common.{List, subst, sym}
use Rattle.std.proofs.lemmas.Result.{IfOk-weaker}
use Rattle.vme_trace.specs.Followed.{with_steps}
use Rattle.vme_trace.specs.declared.step.Step.{Step}
use Rattle.vme_file_part.specs.Growing.{FileMayGoOn}
use Rattle.vme_part_command.specs.FileChecks.{IsPending}
use Rattle.vme_part_command.proofs.CheckLemmas.{FileMayGoOn-all_pending, IsFileSoFar-all, IsPending-append}
use Rattle.vme_part_command.proofs.file_check.judge_all.Goals as goal

pub judge_batches-requires : goal.judge_batches-requires
judge_batches-requires c =
    let (number, listing, start, t, h, may) = c.requires in
    let steps = c.args.steps.items in (
      number,
      listing,
      start,
      with_steps t steps,
      subst (λ (l : List Step). IsPending number listing start c.args.file l (with_steps t steps))
          (sym c.in_ok-append.ensures.items)
          (IsPending-append number listing start c.args.file c.args.pending.items t h steps),
      may,
    )

pub judge_more-requires : goal.judge_more-requires
judge_more-requires c =
    let (number, listing, start, t, h, may) = c.requires in
    let steps = c.args.steps.items in
    let made = c.in_ok-file.ensures number listing start (with_steps t steps)
    (subst (λ (l : List Step). IsPending number listing start c.args.file l (with_steps t steps))
    (sym c.in_ok-append.ensures.items)
    (IsPending-append number listing start c.args.file c.args.pending.items t h steps)) may in (
      number,
      listing,
      start,
      made.judged,
      made.so_far,
      made.few,
      subst (FileMayGoOn made.judged) (sym c.as_slice.ensures.value)
          (FileMayGoOn-all_pending number listing start c.in_ok-file.file c.in_ok-file.rest.items (with_steps t steps)
          made may),
    )

pub returns : goal.returns
returns c number listing start t h may =
    let steps = c.args.steps.items in
    let made = c.in_ok-file.ensures number listing start (with_steps t steps)
    (subst (λ (l : List Step). IsPending number listing start c.args.file l (with_steps t steps))
    (sym c.in_ok-append.ensures.items)
    (IsPending-append number listing start c.args.file c.args.pending.items t h steps)) may in
    IfOk-weaker c.judge_more.result _ _
    (λ file so_far. IsFileSoFar-all number listing start c.in_ok-file.file file c.in_ok-file.rest.items
    (with_steps t steps)
    made (rw (sym c.as_slice.ensures.value) so_far))
    (c.judge_more.ensures.so_far number listing start made.judged made.so_far
    (subst (FileMayGoOn made.judged) (sym c.as_slice.ensures.value)
    (FileMayGoOn-all_pending number listing start c.in_ok-file.file c.in_ok-file.rest.items (with_steps t steps) made
    may)))
