-- A recording that is judged as its steps come: all steps but the waiting ones have been judged.
use Rattle.std.proofs.Common.{ℕ, ◌+◌, ◌≤◌, List, ◌++◌, length, length-append, sym, ap, ◌∙◌, subst, arith}
use Rattle.vme_trace.specs.Levels.{Levels}
use Rattle.vme_trace.specs.WellFormed.{capture_limit}
use Rattle.vme_trace.specs.declared.step.Step.{Step}
use Rattle.vme_summary.specs.JudgedSoFar.{KeepsUp}

-- Of the `count` steps that were taken, all but the waiting ones have been judged. `IsPast` says which steps, after
-- which opening, a state of judging has judged; `IsNext`, below, says it of the next state.
module _ (IsPast : Levels → List Step → Type 0) (count : ℕ) (opening : Levels) (taken waiting : List Step)
    (keeps_up : KeepsUp IsPast count opening taken waiting) (few : count ≤ capture_limit) where
  -- the steps taken are within the limit of a recording
  length-taken_within_limit : length taken ≤ capture_limit
  length-taken_within_limit = omega (arith, few, keeps_up.counted)

  -- some steps have been judged that with the waiting ones are at most 268,435,456
  pub length-judged_and_waiting : (o : Levels) × (judged : List Step) × IsPast o judged
      × (length judged + length waiting ≤ 268435456)
  length-judged_and_waiting =
      let h = keeps_up.kept length-taken_within_limit in
      (opening, h.0, h.1, omega (arith, length-taken_within_limit, sym (length-append h.0 waiting) ∙ ap length h.2))

  -- if the next state has judged the waiting steps after those that the present one has judged, it has judged all
  pub IsNext-all_steps : (IsNext : Levels → List Step → Type 0) → ((o : Levels) (judged : List Step) → IsPast o judged
      → IsNext o (judged ++ waiting)) → IsNext opening taken
  IsNext-all_steps IsNext next =
      let h = keeps_up.kept length-taken_within_limit in
      subst (IsNext opening) h.2 (next opening h.0 h.1)
