use Rattle.std.proofs.Common.{◌≡◌, ◌∙◌, ◌+◌, ◌≤◌, List, ◌++◌, append-nil, arith, ap, length, min, subst, sym}
use Rattle.std.proofs.Math.ListN.{drop_of_length-le}
use Rattle.vme_trace.specs.Levels.{Levels}
use Rattle.vme_trace.specs.Trace.{levels_after}
use Rattle.vme_trace.specs.WellFormed.{capture_limit}
use Rattle.vme_trace.specs.declared.step.Step.{Step}
use Rattle.vme_trace.proofs.CutBlocks.{levels_after-append}
use Rattle.vme_summary.proofs.judged_chunk.JudgedChunk.of.Goals as goal

pub invariant_of-result : goal.invariant_of-result
invariant_of-result g c =
    let opening : Levels = c.args.opening.now in
    let steps : List Step = c.args.steps.now in
    let first : List Step = c.split_at.result.0.now in
    let rest : List Step = c.split_at.result.1.now in
    let cut : steps ≡ first ++ rest = c.split_at.ensures.by_index.0 in
    let chunk_summary = c.in_ok-chunk_summary.chunk_summary in
    let judged = c.in_ok-chunk_summary.ensures in
    let whole : length steps ≤ capture_limit → first ≡ steps = λ few.
    sym (append-nil first) ∙ ap (λ (ss : List Step). first ++ ss)
    (sym (c.split_at.ensures.back ∙ drop_of_length-le steps (omega (arith, few, c.min.ensures)))) ∙ sym cut in
    rw c.of.ensures
    (record {
      counted = c.min-2.ensures;
      made = λ few. subst (λ (ss : List Step). g.J.ChunkJudge.is_made_of chunk_summary opening ss) (whole few)
          judged.made;
      left_is =
          c.left_by.ensures ∙ ap (λ (v : Levels). levels_after v rest) judged.left
          ∙ sym (levels_after-append opening first rest)
          ∙ ap (levels_after opening) (sym cut);
    })
