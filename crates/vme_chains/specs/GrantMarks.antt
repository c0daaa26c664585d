-- The marks of tenures (events of the bus with their instants), by their definitions.
use Rattle.std.specs.Prelude.{ℕ, Bool, ◌==◌, ◌&&◌, Option, None, if◌then◌else◌}
use Rattle.vme_trace.specs.LineNumbers.{BBSY}
use Rattle.vme_trace.specs.Signals.{low, rises}
use Rattle.vme_trace.specs.Judged.{Stretch, is_judged}
use Rattle.vme_trace.specs.Tenures.{tenure_level, tenure_slot, tenure_starts}
use Rattle.vme_trace.specs.Trace.{Trace}
use Rattle.vme_monitor.specs.Run.{no_step_marks}
use Rattle.vme_monitor.specs.declared.mark.StepMarks.{StepMarks}
use Rattle.vme_monitor.specs.declared.mark.BusGrant.{BusGrant}
use Rattle.vme_chains.specs.GrantLevels.{taken_at}

module _ (t : Trace) (stretch : Stretch) where
  -- the open tenure ends: BBSY* rises at a judged instant
  abbrev pub tenure_ends : ℕ → Bool
  tenure_ends j = is_judged stretch j && rises t BBSY j

  -- the bus is busy where judging starts
  abbrev pub is_tenure_open : ℕ → Bool
  is_tenure_open j = (j == stretch.start) && low t BBSY j

  -- the grant by which a tenure starts at j, if one does; if BBSY* falls without a grant, B1 is broken there, and no
  -- tenure is shown
  abbrev pub tenure_at : ℕ → Option BusGrant
  tenure_at j = if tenure_starts t stretch j then taken_at (tenure_level t j) (tenure_slot t j) else None

-- the marks of tenures at instant j: a tenure that is open at the start of the stretch, one that starts, with its level
-- and slot, and the end of one
abbrev pub tenures_shown : Trace → Stretch → ℕ → StepMarks
tenures_shown t stretch j = record no_step_marks {
  opened = is_tenure_open t stretch j;
  tenure = tenure_at t stretch j;
  tenure_end = tenure_ends t stretch j;
}
