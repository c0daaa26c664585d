-- How far a recording is judged, and what is noted of its steps up to the first break.
use Rattle.std.specs.Prelude.{◌≡◌, ◌+◌, ◌++◌, ℕ, List, map, length, true, IfSome, None, is_some, if◌then◌else◌}
use Rattle.std.specs.List.{fold}
use Rattle.std.specs.Option.{option_map}
use Rattle.vme_auditor.specs.declared.memories.AllShown.{AllShown}
use Rattle.vme_monitor.specs.Run.{break_of_fault, kinds_of, mark_at}
use Rattle.vme_summary.specs.MarkedRows.{opening_marks}
use Rattle.vme_trace.specs.Levels.{Levels}
use Rattle.vme_trace.specs.Trace.{Trace, levels_at, recorded, time_at}
use Rattle.vme_trace.specs.declared.step.Step.{Step}
use Rattle.vme_account.specs.KnownTimes.{AreTimes}
use Rattle.vme_account.specs.Marked.{marked, marked_next}
use Rattle.vme_account.specs.StepsReached.{reached}
use Rattle.vme_account.specs.StretchEvents.{AreEvents}
use Rattle.vme_account.specs.declared.followed_steps.FollowedSteps.{FollowedSteps}
use Rattle.vme_account.specs.declared.step_notes.StepNotes.{StepNotes}

-- ---- what is noted

-- the notes before the first step, after the opening levels `o`
pub record AreNotesAtOpening (o : Levels) (n : StepNotes) : Type 0 where
  pub found : n.found ≡ None
  pub marked : n.marked ≡ marked (opening_marks o)
  pub times : (t : Trace) → AreTimes t n.times
  pub events : (t : Trace) → AreEvents t n.events
  pub seen : n.events.seen ≡ 0

-- the notes after a step at an instant and a time, between levels `v` and `w`, at which the monitors show `shown`
pub record AreNotesOfStep (v w : Levels) (instant time : ℕ) (shown : AllShown) (old new : StepNotes) : Type 0 where
  pub found : new.found ≡ option_map (break_of_fault instant time) shown.fault
  pub marked : new.marked
      ≡ (if is_some shown.fault then old.marked
      else fold marked_next old.marked (map (mark_at instant)
      (kinds_of shown.stretch ++ (kinds_of shown.tenure ++ kinds_of shown.transfer))))
  pub times : (t : Trace) → AreTimes t old.times → time ≡ time_at t instant → AreTimes t new.times
  pub events : (t : Trace) → AreEvents t old.events → instant ≡ old.events.seen + 1 → v ≡ levels_at t old.events.seen
      → w ≡ levels_at t (old.events.seen + 1) → time ≡ time_at t (old.events.seen + 1) → AreEvents t new.events
  pub seen : new.events.seen ≡ instant
  pub broken : IfSome shown.fault (λ f. is_some new.events.before ≡ true)

-- ---- how far it has come

-- After the steps `x` the break is their first one, and the marks before it are taken. The times and the events noted
-- are those of the recording, whatever steps `y` follow. Up to the break the monitors have the memories after `x`.
pub record FollowsSteps (o : Levels) (x : List Step) (j : FollowedSteps) : Type 0 where
  pub found : j.notes.found ≡ (reached o x).found
  pub marked : j.notes.marked ≡ marked (reached o x).marks
  pub times : (y : List Step) → AreTimes (recorded o (x ++ y)) j.notes.times
  pub events : (y : List Step) → AreEvents (recorded o (x ++ y)) j.notes.events
  pub broken : IfSome j.notes.found (λ b. (b.instant ≡ j.notes.events.seen) × (is_some j.notes.events.before ≡ true))
  pub before : j.notes.found ≡ None → j.view.before ≡ (reached o x).levels
  pub after : j.notes.found ≡ None → j.view.after ≡ (reached o x).levels
  pub memories : j.notes.found ≡ None → j.memories ≡ (reached o x).memories
  pub seen : j.notes.found ≡ None → j.notes.events.seen ≡ length x
