use Rattle.std.proofs.Common.{◌++◌, ◌∙◌, List, ap}
use Rattle.vme_trace.specs.declared.step.Step.{Step}
use Rattle.vme_text_workers.specs.Chunks.{steps_in}
use Rattle.vme_text_workers.proofs.ChunkLemmas.{Follow-with_chunk, steps_in-with_chunk}
use Rattle.vme_text_workers.proofs.chunks.ChunkBuffer.finish.Goals as goal

pub invariant_of-result : goal.invariant_of-result
invariant_of-result g c =
    let i = c.self.inside in
    let steps : List Step = c.deref.result.now in
    Follow-with_chunk i.opening i.left i.chunks.items c.push.new.self.items c.in_ok-of.field-0 steps c.self.invariant
    c.in_ok-push.ensures.items c.in_ok-of.ensures

pub returns : goal.returns
returns g c =
    let i = c.self.inside in
    let steps : List Step = c.deref.result.now in
    ap (λ (ss : List Step). record { opening = i.opening; steps = ss })
    (steps_in-with_chunk i.opening i.left i.chunks.items c.push.new.self.items c.in_ok-of.field-0 steps c.self.invariant
    c.in_ok-push.ensures.items c.in_ok-of.ensures)
    ∙ ap (λ (ss : List Step). record { opening = i.opening; steps = steps_in i.chunks.items ++ ss })
    c.deref.ensures.value
    ∙ c.self.view_is
