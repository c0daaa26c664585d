-- The loop over the blocks: the steps so far were judged, and with those that are left they are all steps.
use Rattle.std.proofs.Common.{◌≡◌, List, ◌++◌}
use Rattle.std.specs.Slice.Iter.{chunks_rest}
use Rattle.vme_trace.specs.declared.step.Step.{Step}
use Rattle.vme_summary.proofs.cut.judged_by_blocks.Given as goal

abbrev pub invariant-loop-block : goal.invariant-loop-block
invariant-loop-block g l =
    (goal.iterator-loop-block g).can_next l.block-iterator
    × (goal.iterator-loop-block g).is_finite l.block-iterator
    × ((done : List Step) × g.J.ChunkJudge.is_past l.judging l.fn.capture.opening done
    × (done ++ chunks_rest l.block-iterator ≡ l.fn.capture.steps))
