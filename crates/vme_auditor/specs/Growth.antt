-- How the breaks of a recording grow as its steps come.
use Rattle.std.specs.Prelude.{◌≡◌, ◌+◌, [], ◌∷◌, ◌++◌, length, Option, IfSome}
use Rattle.std.specs.Option.{option_to_list}
use Rattle.vme_trace.specs.Followed.{with_steps}
use Rattle.vme_trace.specs.Trace.{Trace}
use Rattle.vme_trace.specs.declared.step.Step.{Step}
use Rattle.vme_trace.specs.declared.verdict.Break.{Break}
use Rattle.vme_audit.specs.Parts.{breaks}

-- one more step `s` breaks at most one rule, at its own instant, and the breaks before it stay
pub record StepBreaks (t : Trace) (s : Step) : Type 0 where
  pub found : Option Break
  pub own : IfSome found (λ b. b.instant ≡ length t.steps + 1)
  pub grown : breaks (with_steps t (s ∷ [])) ≡ breaks t ++ option_to_list found
