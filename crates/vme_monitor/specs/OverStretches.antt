-- A machine that waits for an idle instant, then judges by an inner machine, until a control line is lost, or the bus
-- is reset, after which it waits again.
use Rattle.std.specs.Prelude.{ℕ, zero, suc, Bool, true, false, ◌||◌, List, Option, None, Some, if◌then◌else◌}
use Rattle.std.specs.Option.{option_map_or, is_some}
use Rattle.vme_trace.specs.Levels.{Levels, is_idle}
use Rattle.vme_trace.specs.Changes.{touches_control}
use Rattle.vme_trace.specs.declared.step.Change.{Change}
use Rattle.vme_monitor.specs.Ends.{end_among}
use Rattle.vme_monitor.specs.Run.{quiet, no_step_marks}
use Rattle.vme_monitor.specs.declared.mark.Fault.{Fault}
use Rattle.vme_monitor.specs.declared.mark.StepMarks.{StepMarks}
use Rattle.vme_monitor.specs.declared.mark.Next.{Next}
use Rattle.vme_monitor.specs.declared.over_stretches.StretchPhase.{StretchPhase}
use Rattle.vme_monitor.specs.declared.over_stretches.StretchPhase.TheVariants.{Waiting, InStretch, Reset, Ended}
use Rattle.vme_monitor.specs.declared.over_stretches.StretchObservation.{StretchObservation}
use Rattle.vme_monitor.specs.declared.view.End.{End}
use Rattle.vme_monitor.specs.declared.view.End.TheVariants as end

-- the place of a phase: 0 to 2, or 3 more than the place of the memory in a stretch
abbrev pub phase_place : {P : Type 0} → (P → ℕ) → StretchPhase P → ℕ
phase_place place Waiting = 0
phase_place place Reset = 1
phase_place place Ended = 2
phase_place place (InStretch p) = suc (suc (suc (place p)))

-- the phase at a place
abbrev pub phase_nth : {P : Type 0} → (ℕ → P) → ℕ → StretchPhase P
phase_nth nth zero = Waiting
phase_nth nth (suc zero) = Reset
phase_nth nth (suc (suc zero)) = Ended
phase_nth nth (suc (suc (suc k))) = InStretch (nth k)

-- the phase at an opening with the levels o: judging starts there if the bus is idle
abbrev pub opening_phase : {P : Type 0} → (Levels → P) → Levels → StretchPhase P
opening_phase begin o = if is_idle o then InStretch (begin o) else Waiting

-- a stretch has started
abbrev pub has_started : {P : Type 0} → StretchPhase P → Bool
has_started Waiting = false
has_started (InStretch p) = true
has_started Reset = true
has_started Ended = true

-- a step of the inner machine as one of the outer machine
abbrev pub inner : {P : Type 0} → Next P → Next (StretchPhase P)
inner n = record { memory = InStretch n.memory; fault = n.fault; shown = n.shown }

-- there is an observation if a control line changes or the rules see something
abbrev pub observed : {S : Type 0} → (Levels → Levels → List Change → Option S)
    → Levels → Levels → List Change → Option (StretchObservation S)
observed observation before after cs =
    if touches_control after.slots cs || is_some (observation before after cs)
    then Some (record { end = end_among after cs; inner = observation before after cs })
    else None

-- a machine reacts to a step whose threshold is at most this number: after a reset and where it waits to each change of
-- a control line, where it judges to what the rules see, and always to what ends a stretch. No threshold is 3: by this
-- number the phase after a reset differs from that before the first stretch.
abbrev pub phase_sensitivity : {P : Type 0} → StretchPhase P → ℕ
phase_sensitivity Waiting = 2
phase_sensitivity (InStretch p) = 1
phase_sensitivity Reset = 3
phase_sensitivity Ended = 0

-- 0 for what ends a stretch, so that all react to it; 1 for what the rules see; 2 for any other
-- change of a control line
abbrev pub threshold_by : {S : Type 0} → Option End → Option S → ℕ
threshold_by (Some ends) seen = 0
threshold_by None (Some s) = 1
threshold_by None None = 2

-- the threshold of a step
abbrev pub stretch_threshold : {S : Type 0} → StretchObservation S → ℕ
stretch_threshold seen = threshold_by seen.end seen.inner

module _ {P S : Type 0} (begin : Levels → P) (start_marks : Levels → StepMarks) (reset_marks : StepMarks)
    (end_fault : ℕ → Option Fault) (next : P → Levels → Levels → S → Next P) where
  -- a step of a machine that waits: judging starts if the bus is idle after it
  abbrev pub waiting : StretchPhase P → Levels → Next (StretchPhase P)
  waiting m after =
      if is_idle after then record { memory = InStretch (begin after); fault = None; shown = start_marks after }
      else quiet m

  -- a step at which a reset ends the stretch
  abbrev pub resetting : Next (StretchPhase P)
  resetting = record { memory = Reset; fault = None; shown = reset_marks }

  -- a step at which the lost control line l ends the stretch, and all judging
  abbrev pub ending : ℕ → Next (StretchPhase P)
  ending l = record { memory = Ended; fault = end_fault l; shown = no_step_marks }

  -- a step in the phase `InStretch p`, by what ends the stretch there and by what the rules see
  abbrev pub judging : P → Levels → Levels → Option End → Option S → Next (StretchPhase P)
  judging p before after (Some end.Reset) s = resetting
  judging p before after (Some (end.Lost l)) s = ending l
  judging p before after None s = inner (option_map_or (next p before after) s (quiet p))

  -- the step of the outer machine in each phase
  abbrev pub phase_step : StretchPhase P → Levels → Levels → StretchObservation S → Next (StretchPhase P)
  phase_step Waiting before after seen = waiting Waiting after
  phase_step (InStretch p) before after seen = judging p before after seen.end seen.inner
  phase_step Reset before after seen = waiting Reset after
  phase_step Ended before after seen = quiet Ended
