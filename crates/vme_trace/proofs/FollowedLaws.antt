-- Laws of a recording that is continued by steps.
use Rattle.std.proofs.Common.{◌≡◌, List, [], ◌++◌, ap, append-nil, append_assoc}
use Rattle.vme_trace.specs.Followed.{with_steps}
use Rattle.vme_trace.specs.Trace.{Trace}
use Rattle.vme_trace.specs.declared.step.Step.{Step}

-- a recording with no more steps is the same
pub with_steps-none : (t : Trace) → with_steps t [] ≡ t
with_steps-none t = ap (λ (l : List Step). record t { steps = l }) (append-nil t.steps)

-- a recording continued by x, and then by y, is the recording continued by both, one after the other
pub with_steps-append : (t : Trace) (x y : List Step) → with_steps (with_steps t x) y ≡ with_steps t (x ++ y)
with_steps-append t x y = ap (λ (l : List Step). record t { steps = l }) (append_assoc t.steps x y)
