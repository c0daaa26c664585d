-- The state of an audit after some steps: a fold over the steps, which keeps none of them.
use Rattle.std.specs.Prelude.{◌≡◌, ℕ, ◌+◌, Bool, ◌||◌, List, [], ◌++◌, length, Option, None, Some}
use Rattle.std.specs.List.{fold}
use Rattle.std.specs.Option.{option_to_list}
use Rattle.vme_trace.specs.Levels.{Levels}
use Rattle.vme_trace.specs.Trace.{changed}
use Rattle.vme_trace.specs.declared.step.Change.{Change}
use Rattle.vme_trace.specs.declared.step.Step.{Step}
use Rattle.vme_trace.specs.declared.verdict.Break.{Break}
use Rattle.vme_monitor.specs.Ends.{end_among}
use Rattle.vme_monitor.specs.OverStretches.{has_started}
use Rattle.vme_monitor.specs.declared.mark.Fault.{Fault}
use Rattle.vme_monitor.specs.declared.mark.StepMarks.{StepMarks}
use Rattle.vme_monitor.specs.declared.over_stretches.StretchPhase.{StretchPhase}
use Rattle.vme_monitor.specs.declared.over_stretches.StretchPhase.TheVariants.{InStretch}
use Rattle.vme_monitor.specs.declared.view.End.{End}
use Rattle.vme_monitor.specs.declared.view.StepView.{StepView}
use Rattle.vme_dtb.specs.declared.memory.HandshakeMemory.{HandshakeMemory}
use Rattle.vme_summary.specs.Runs.{grant_at, handshake_at, known_at}
use Rattle.vme_auditor.specs.Events.{at_step, nothing_happened}
use Rattle.vme_auditor.specs.Memories.{fault_at, first_fault_of, memories_at, memories_next}
use Rattle.vme_auditor.specs.Tallied.{at_break, counted, no_counts, tallied}
use Rattle.vme_auditor.specs.declared.asked.AskedEvents.{AskedEvents}
use Rattle.vme_auditor.specs.declared.audit.Audit.{Audit}

-- judging starts, if `starts`
abbrev pub with_stretch : AskedEvents → Bool → AskedEvents
with_stretch e starts = record e { stretch = e.stretch || starts }

-- the events of a step are added if its instant is judged, i.e. in a stretch before and after the step
abbrev pub events_in : AskedEvents → StretchPhase HandshakeMemory → Option End → Levels → Levels → List Change
    → StepMarks → AskedEvents
events_in e (InStretch entered) None before after changes transfer = at_step e entered before after changes transfer
events_in e phase end before after changes transfer = e

-- the events after a step: those at its instant, and whether judging starts there
abbrev pub events_by : AskedEvents → StretchPhase HandshakeMemory → Option End → Levels → Levels → List Change
    → StepMarks → StepMarks → AskedEvents
events_by e entered end before after changes stretch transfer =
    with_stretch (events_in e entered end before after changes transfer) stretch.start

-- the audit before the first step
abbrev pub begun_at : Levels → Audit
begun_at o =
    record {
      memories = memories_at o;
      tally = no_counts;
      events = record nothing_happened { stretch = has_started (memories_at o).known };
      last_break = None;
    }

-- judging starts anew at the break at instant `n`
abbrev pub restarted : Audit → Levels → ℕ → Audit
restarted a after n =
    record {
      memories = memories_at after;
      tally = at_break counted a.tally;
      events = with_stretch a.events (has_started (memories_at after).known);
      last_break = Some n;
    }

-- a step without a fault is counted, and at a fault judging starts anew
abbrev pub ended_with : Audit → Levels → ℕ → ℕ → StepMarks → StepMarks → StepMarks → Option Fault → Audit
ended_with a after n time stretch tenure transfer None =
    record a { tally = tallied counted a.tally n time stretch tenure transfer }
ended_with a after n time stretch tenure transfer (Some fault) = restarted a after n

-- an audit after one more step, at its instant `n` and time `time`
abbrev pub stepped : Audit → Levels → Levels → List Change → ℕ → ℕ → Audit
stepped a before after changes n time =
    let stretch = (known_at a.memories.known before after changes).shown in
    let transfer = (handshake_at a.memories.handshake before after changes).shown in
    ended_with
    (record a {
      memories = memories_next a.memories before after changes;
      events = events_by a.events a.memories.handshake (end_among after changes) before after changes stretch transfer;
    })
    after n time stretch (grant_at a.memories.grant before after changes).shown transfer
    (first_fault_of a.memories before after changes)

-- an audit after some steps: the levels, the instant, its state, and the breaks that it returned
pub record AuditReached : Type 0 where
  pub levels : Levels
  pub instant : ℕ
  pub audit : Audit
  pub returned : List Break

-- before the first step
abbrev pub reached_at : Levels → AuditReached
reached_at o = record { levels = o; instant = 0; audit = begun_at o; returned = [] }

-- after one more step
abbrev pub with_step : AuditReached → Step → AuditReached
with_step r step =
    let after = changed r.levels step.changes in
    let n = r.instant + 1 in
    record {
      levels = after;
      instant = n;
      audit = stepped r.audit r.levels after step.changes n step.time;
      returned = r.returned ++ option_to_list (fault_at r.audit.memories r.levels after step.changes n step.time);
    }

-- after some steps from the opening levels `o`
unfoldable pub reached_after : Levels → List Step → AuditReached
reached_after o steps = fold with_step (reached_at o) steps

-- the auditor's fields after the steps `taken`: their number, the levels after them on both sides of the view, and the
-- state of the audit
pub record HasAudited (opening : Levels) (taken : List Step) (steps : ℕ) (view : StepView)
    (audit : Audit) : Type 0 where
  pub counted : steps ≡ length taken
  pub instant : (reached_after opening taken).instant ≡ steps
  pub before : view.before ≡ (reached_after opening taken).levels
  pub after : view.after ≡ (reached_after opening taken).levels
  pub audit_is : audit ≡ (reached_after opening taken).audit
