-- A monitor that finds and shows together what two others find and show each.
use Rattle.std.specs.Prelude.{ℕ, List}
use Rattle.vme_trace.specs.Judged.{Stretch}
use Rattle.vme_trace.specs.Levels.{Levels}
use Rattle.vme_trace.specs.Trace.{Trace}
use Rattle.vme_trace.specs.declared.rule.Rule.{Rule}
use Rattle.vme_trace.specs.declared.step.Step.{Step}
use Rattle.vme_monitor.specs.Joined.{AreJoined, ShareNoKind, together}
use Rattle.vme_monitor.specs.Outcome.{Outcome}
use Rattle.vme_monitor.specs.Whole.{FindsLeast, ShowsAll}
use Rattle.vme_monitor.specs.declared.mark.StepMarks.{StepMarks}

module _ {P Q R : Type 0} (first : P → Levels → List Step → Outcome P) (begin_first : Levels → P)
    (second : Q → Levels → List Step → Outcome Q) (begin_second : Levels → Q)
    (both : R → Levels → List Step → Outcome R) (begin_both : Levels → R) where
  -- if `first` and `second` find the least breaks of rs and of qs, `both` finds that of all of these rules
  abbrev pub FindsTogether : Type 0
  FindsTogether =
      (rs qs all : List Rule) → AreJoined rs qs all → FindsLeast first begin_first rs
      → FindsLeast second begin_second qs → FindsLeast both begin_both all

  -- if `first` and `second` show their marks, never two of one kind at once, `both` shows the marks of both
  abbrev pub ShowsTogether : Type 0
  ShowsTogether =
      (a b : StepMarks) (f g : Trace → Stretch → ℕ → StepMarks) → ShareNoKind a b
      → ((t : Trace) (stretch : Stretch) (j : ℕ) → ShareNoKind (f t stretch j) (g t stretch j))
      → ShowsAll first begin_first a f → ShowsAll second begin_second b g
      → ShowsAll both begin_both (together a b) (λ t stretch j. together (f t stretch j) (g t stretch j))
