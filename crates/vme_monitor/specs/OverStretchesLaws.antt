-- Laws of the phases of a machine that judges stretches: their places, and which steps leave them as they are.
use Rattle.std.proofs.Common.{◌≡◌, ℕ, suc, ◌+◌, ◌<◌, ◌≤◌, refl, ap, arith, Option, None, Some, Bool, true, false}
use Rattle.std.proofs.Common.{if◌then◌else◌}
use Rattle.vme_trace.specs.Levels.{Levels, is_idle}
use Rattle.vme_monitor.specs.Run.{quiet}
use Rattle.vme_monitor.specs.OverStretches.{phase_place, phase_nth, phase_sensitivity, threshold_by, stretch_threshold}
use Rattle.vme_monitor.specs.OverStretches.{phase_step}
use Rattle.vme_monitor.specs.OverStretches.{judging, waiting}
use Rattle.vme_monitor.specs.declared.mark.Fault.{Fault}
use Rattle.vme_monitor.specs.declared.mark.StepMarks.{StepMarks}
use Rattle.vme_monitor.specs.declared.mark.Next.{Next}
use Rattle.vme_monitor.specs.declared.over_stretches.StretchObservation.{StretchObservation}
use Rattle.vme_monitor.specs.declared.over_stretches.StretchPhase.{StretchPhase}
use Rattle.vme_monitor.specs.declared.over_stretches.StretchPhase.TheVariants.{Waiting, InStretch, Reset, Ended}
use Rattle.vme_monitor.specs.declared.view.End.{End}

pub phase_placed : {P : Type 0} (count : ℕ) (place : P → ℕ) → ((p : P) → place p < count)
    → (m : StretchPhase P) → phase_place place m < count + 3
phase_placed count place h Waiting = omega arith
phase_placed count place h Reset = omega arith
phase_placed count place h Ended = omega arith
phase_placed count place h (InStretch p) = below (place p) (h p)
  where
    below : (k : ℕ) → k < count → suc (suc (suc k)) < count + 3
    below k b = omega arith

pub phase_found : {P : Type 0} (place : P → ℕ) (nth : ℕ → P) → ((p : P) → nth (place p) ≡ p)
    → (m : StretchPhase P) → phase_nth nth (phase_place place m) ≡ m
phase_found place nth h Waiting = refl
phase_found place nth h Reset = refl
phase_found place nth h Ended = refl
phase_found place nth h (InStretch p) = ap InStretch (h p)

pub phases_few : (count : ℕ) → count ≤ 509 → count + 3 ≤ 512
phases_few count h = omega arith

module _ {P S : Type 0} (begin : Levels → P) (start_marks : Levels → StepMarks) (reset_marks : StepMarks)
    (end_fault : ℕ → Option Fault) (next : P → Levels → Levels → S → Next P) where
  -- no threshold is above 2, so a machine that waits reacts to each observation
  never_waiting : (end : Option End) (seen : Option S) → ¬ (2 < threshold_by end seen)
  never_waiting (Some ends) seen h = omega arith
  never_waiting None (Some s) h = omega arith
  never_waiting None None h = omega arith

  judging_unchanged : (p : P) (before after : Levels) (end : Option End) (seen : Option S) → 1 < threshold_by end seen
      → judging begin start_marks reset_marks end_fault next p before after end seen ≡ quiet (InStretch p)
  judging_unchanged p before after (Some what) seen h = absurd (omega arith)
  judging_unchanged p before after None (Some s) h = absurd (omega arith)
  judging_unchanged p before after None None h = refl

  pub phase_step_unchanged : (m : StretchPhase P) (before after : Levels) (seen : StretchObservation S)
      → phase_sensitivity m < stretch_threshold seen
      → phase_step begin start_marks reset_marks end_fault next m before after seen ≡ quiet m
  phase_step_unchanged Waiting before after seen h = absurd (never_waiting seen.end seen.inner h)
  phase_step_unchanged (InStretch p) before after seen h = judging_unchanged p before after seen.end seen.inner h
  phase_step_unchanged Reset before after seen h = absurd (never_waiting seen.end seen.inner (omega (arith, h)))
  phase_step_unchanged Ended before after seen h = refl

  either : (b : Bool) (x y : Next (StretchPhase P)) (n : ℕ) → phase_sensitivity x.memory ≤ n
      → phase_sensitivity y.memory ≤
      n
      → phase_sensitivity (if b then x else y).memory ≤ n
  either true x y n h k = h
  either false x y n h k = k

  waiting_sensitivity : (m : StretchPhase P) (after : Levels) → 1 ≤ phase_sensitivity m
      → phase_sensitivity (waiting begin start_marks reset_marks end_fault next m after).memory ≤ phase_sensitivity m
  waiting_sensitivity m after h =
      either (is_idle after) (record { memory = InStretch (begin after); fault = None; shown = start_marks after })
      (quiet m) (phase_sensitivity m) h (omega arith)

  judging_sensitivity : (p : P) (before after : Levels) (end : Option End) (seen : Option S) → 0 < threshold_by end seen
      → phase_sensitivity (judging begin start_marks reset_marks end_fault next p before after end seen).memory ≤ 1
  judging_sensitivity p before after (Some what) seen h = absurd (omega arith)
  judging_sensitivity p before after None None h = omega arith
  judging_sensitivity p before after None (Some s) h = omega arith

  -- a step that doesn't end a stretch makes no phase more sensitive
  pub phase_step_sensitivity : (m : StretchPhase P) (before after : Levels) (seen : StretchObservation S)
      → 0 < stretch_threshold
      seen
      → phase_sensitivity (phase_step begin start_marks reset_marks end_fault next m before after seen).memory
      ≤ phase_sensitivity m
  phase_step_sensitivity Waiting before after seen h = waiting_sensitivity Waiting after (omega arith)
  phase_step_sensitivity (InStretch p) before after seen h = judging_sensitivity p before after seen.end seen.inner h
  phase_step_sensitivity Reset before after seen h = waiting_sensitivity Reset after (omega arith)
  phase_step_sensitivity Ended before after seen h = omega arith
