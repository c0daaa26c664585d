-- A batch is judged, and the steps after it are left.
use Rattle.std.proofs.Common.{List, ap, arith, length, subst, sym, ◌∙◌}
use Rattle.std.proofs.lemmas.List.{length-take-le}
use Rattle.vme_trace.specs.Followed.{with_steps}
use Rattle.vme_trace.specs.declared.step.Step.{Step}
use Rattle.vme_file_part.specs.Growing.{FileMayGoOn, IsFileSoFar}
use Rattle.vme_part_command.specs.FileChecks.{HasFewNodes, IsPending}
use Rattle.vme_part_command.proofs.CheckLemmas.{IsPending-after_judging, FileMayGoOn-first_pending}
use Rattle.vme_part_command.proofs.file_check.judge_batches.Goals as goal

pub loop-alloc-init : goal.loop-alloc-init
loop-alloc-init c = record { pending = λ number listing start t h may. h }

pub judge_more-requires : goal.judge_more-requires
judge_more-requires c =
    let (number, listing, start, t, first, may) = c.requires in
    let h = c.loop-alloc.invariant.pending number listing start t first may in (
      number,
      listing,
      start,
      h.judged,
      h.so_far,
      h.few,
      subst (FileMayGoOn h.judged) (sym (c.as_slice.ensures.value ∙ c.in_ok-rest.ensures.items))
          (FileMayGoOn-first_pending number listing start c.loop-alloc.file c.loop-alloc.pending.items t h 16384 may),
    )

pub loop-alloc-preserved : goal.loop-alloc-preserved
loop-alloc-preserved c = record {
  pending = λ number listing start t first may.
      let h = c.loop-alloc.invariant.pending number listing start t first may in
      let batch = c.as_slice.ensures.value ∙ c.in_ok-rest.ensures.items in
      subst (λ (l : List Step). IsPending number listing start c.in_ok-file.file l t) (sym c.in_ok-rest.ensures.tail)
      (IsPending-after_judging number listing start c.loop-alloc.file c.loop-alloc.pending.items t h 16384
      c.in_ok-file.file
      (subst (λ (l : List Step). IsFileSoFar number listing start c.in_ok-file.file (with_steps h.judged l)) batch
      (c.in_ok-file.ensures.so_far number listing start h.judged h.so_far
      (subst (FileMayGoOn h.judged) (sym batch)
      (FileMayGoOn-first_pending number listing start c.loop-alloc.file c.loop-alloc.pending.items t h 16384 may))))
      (subst (λ (l : List Step). HasFewNodes c.in_ok-file.file (with_steps h.judged l)) batch
      (c.in_ok-file.ensures.few h.judged h.few
      (ap (λ (l : List Step). length l) batch ∙ length-take-le 16384 c.loop-alloc.pending.items (omega arith)))));
}
