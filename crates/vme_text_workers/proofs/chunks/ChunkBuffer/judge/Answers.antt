use Rattle.std.proofs.Common.{◌++◌, ◌∙◌, List, ap, append-nil}
use Rattle.vme_trace.specs.Trace.{Trace, levels_after}
use Rattle.vme_trace.specs.declared.step.Step.{Step}
use Rattle.vme_text_workers.specs.Chunks.{steps_in}
use Rattle.vme_text_workers.proofs.ChunkLemmas.{steps_in-with_chunk, AreUnderway-with_chunk}
use Rattle.vme_text_workers.proofs.chunks.ChunkBuffer.judge.Goals as goal

pub invariant_of-self-2 : goal.invariant_of-self-2
invariant_of-self-2 g c =
    let i = c.self.inside in
    let steps : List Step = c.deref.result.now in
    AreUnderway-with_chunk i.opening i.left i.chunks.items c.push.new.self.items c.in_ok-chunk.chunk steps
    c.self.invariant
    c.in_ok-push.ensures.items c.in_ok-chunk.ensures
    c.left-left.result.now
    (c.left-left.ensures ∙ ap (λ (t : Trace). levels_after t.opening t.steps) c.in_ok-chunk.ensures)

pub returns : goal.returns
returns g c =
    let i = c.self.inside in
    let steps : List Step = c.deref.result.now in
    ap (λ (ss : List Step). record { opening = i.opening; steps = ss })
    (ap (λ (ws : List Step). steps_in c.push.new.self.items ++ ws) c.clear.ensures.items
    ∙ append-nil (steps_in c.push.new.self.items)
    ∙ steps_in-with_chunk i.opening i.left i.chunks.items c.push.new.self.items c.in_ok-chunk.chunk steps
    c.self.invariant c.in_ok-push.ensures.items c.in_ok-chunk.ensures
    ∙ ap (λ (ws : List Step). steps_in i.chunks.items ++ ws) c.deref.ensures.value)
    ∙ c.self.view_is
