-- The steps of a part of a recording, in chunks, each of which opens with the levels to which those before it lead.
use Rattle.std.proofs.Common.{◌≡◌, List, [], ◌∷◌, ◌++◌, sym, ap, subst, ◌∙◌, append_assoc, append-nil}
use Rattle.vme_trace.specs.Followed.{with_steps}
use Rattle.vme_trace.specs.Levels.{Levels}
use Rattle.vme_trace.specs.Trace.{Trace, levels_after}
use Rattle.vme_trace.specs.declared.step.Step.{Step}
use Rattle.vme_trace.proofs.CutBlocks.{levels_after-append}
use Rattle.vme_text_workers.specs.Chunks.{AreUnderway, Follow, steps_in}

-- the steps of some chunks and one more are theirs and its steps
steps_in-append : (chunks : List Trace) (chunk : Trace) → steps_in (chunks ++ chunk ∷ [])
    ≡ steps_in chunks ++ chunk.steps
steps_in-append [] chunk = append-nil chunk.steps
steps_in-append (first_chunk ∷ chunks) chunk =
    ap (λ (ss : List Step). first_chunk.steps ++ ss) (steps_in-append chunks chunk)
    ∙ sym (append_assoc first_chunk.steps (steps_in chunks) chunk.steps)

-- chunks that follow one another, and one more that opens with the levels to which they lead, do so
Follow-append : (v : Levels) (chunks : List Trace) (chunk : Trace) → Follow v chunks → chunk.opening
    ≡ levels_after v (steps_in chunks)
    → Follow v (chunks ++ chunk ∷ [])
Follow-append v [] chunk h opens = (opens, tt)
Follow-append v (first_chunk ∷ chunks) chunk h opens = (
  h.0,
  Follow-append (levels_after v first_chunk.steps) chunks chunk h.1 (opens ∙ levels_after-append v first_chunk.steps
      (steps_in chunks)),
)

-- ---- one more chunk

module _ (opening left : Levels) (chunks with_chunk : List Trace) (chunk : Trace) (steps : List Step)
    (so : AreUnderway opening chunks left)
    (is : with_chunk ≡ chunks ++ chunk ∷ []) (one : chunk ≡ record { opening = left; steps = steps }) where
  -- the chunks with one more follow one another
  pub Follow-with_chunk : Follow opening with_chunk
  Follow-with_chunk = subst (Follow opening) (sym is) (Follow-append opening chunks chunk so.follow
      (ap (λ (t : Trace). t.opening) one ∙ so.left_is))

  -- the steps of the chunks with one more are those of the chunks, and its own
  pub steps_in-with_chunk : steps_in with_chunk ≡ steps_in chunks ++ steps
  steps_in-with_chunk = ap steps_in is ∙ steps_in-append chunks chunk
      ∙ ap (λ (t : Trace). steps_in chunks ++ t.steps) one

  -- the chunks with one more lead to the levels after its steps
  pub AreUnderway-with_chunk : (left_after : Levels) → left_after ≡ levels_after left steps
      → AreUnderway opening with_chunk left_after
  AreUnderway-with_chunk left_after at = record {
    follow = Follow-with_chunk;
    left_is =
        at ∙ ap (λ (v : Levels). levels_after v steps) so.left_is ∙ sym (levels_after-append opening (steps_in chunks)
        steps)
        ∙ ap (levels_after opening) (sym steps_in-with_chunk);
  }

-- ---- chunks that are passed in order

module _ (before after : Trace) (chunks rest : List Trace) (chunk : Trace) (at : chunks ≡ chunk ∷ rest)
    (follow : Follow (levels_after before.opening before.steps) chunks) where
  -- the first chunk and the rest follow what was passed before
  Follow-first : Follow (levels_after before.opening before.steps) (chunk ∷ rest)
  Follow-first = subst (Follow (levels_after before.opening before.steps)) at follow

  -- once the first chunk is passed, the rest follow
  pub Follow-rest : after ≡ with_steps before chunk.steps → Follow (levels_after after.opening after.steps) rest
  Follow-rest is =
      subst (λ (t : Trace). Follow (levels_after t.opening t.steps) rest) (sym is)
      (subst (λ (v : Levels). Follow v rest) (sym (levels_after-append before.opening before.steps chunk.steps))
      Follow-first.1)

  -- once the first chunk is passed, the steps of the rest give the same recording as those of all chunks before
  pub with_steps-first : after ≡ with_steps before chunk.steps → with_steps after (steps_in rest) ≡ with_steps before
      (steps_in chunks)
  with_steps-first is =
      ap (λ (t : Trace). with_steps t (steps_in rest)) is
      ∙ ap (λ (ss : List Step). record before { steps = ss }) (append_assoc before.steps chunk.steps (steps_in rest))
      ∙ ap (λ (ts : List Trace). with_steps before (steps_in ts)) (sym at)
