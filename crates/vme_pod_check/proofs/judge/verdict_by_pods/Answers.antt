use Rattle.vme_trace.specs.Blocks.{block_count}
use Rattle.vme_pod_check.proofs.Contents.{length-blocks_of, BlocksJoin-blocks_of, AreTakenFrom-blocks_of}
use Rattle.vme_pod_check.proofs.Contents.{joined_trace-of_cut, not_above-at_most}
use Rattle.vme_pod_check.proofs.CheckLemmas.{Finds-few_blocks}
use Rattle.vme_pod_check.proofs.judge.verdict_by_pods.Goals as goal

pub verdict_on_blocks-requires-clause-numbered : goal.verdict_on_blocks-requires-clause-numbered
verdict_on_blocks-requires-clause-numbered g c = λ lifetimes alive. rw c.in-Ok.ensures.blocks
    (AreTakenFrom-blocks_of c.args.capture.now c.args.plan.block)

pub verdict_on_blocks-requires-clause-join : goal.verdict_on_blocks-requires-clause-join
verdict_on_blocks-requires-clause-join g c = λ lifetimes alive. rw c.in-Ok.ensures.blocks
    (BlocksJoin-blocks_of c.args.capture.now c.args.plan.block c.steps.ensures.sound.well_formed)

pub verdict_on_blocks-requires-clause-count : goal.verdict_on_blocks-requires-clause-count
verdict_on_blocks-requires-clause-count g c = λ lifetimes alive.
    length-blocks_of c.args.capture.now c.args.plan.block _ c.in-Ok.ensures.blocks
    (not_above-at_most (block_count c.args.plan.block c.args.capture.now)
    (λ many. let refused = c.in-Ok.ensures.too_many.1
    (c.requires.block.0, c.requires.block.1, many) in cc))

pub returns-in-Ok-clause-exact : goal.returns-in-Ok-clause-exact
returns-in-Ok-clause-exact g c =
    Finds-few_blocks c.args.plan.block c.args.capture.now _
    (not_above-at_most (block_count c.args.plan.block c.args.capture.now)
    (λ many. let refused = c.in-Ok.ensures.too_many.1
    (c.requires.block.0, c.requires.block.1, many) in cc))
    (c.verdict_on_blocks.ensures.exact c.args.capture.now (joined_trace-of_cut c.args.capture.now c.args.plan.block _
    c.in-Ok.ensures.blocks c.requires.block.0))
