-- The rows of a recording, stretch by stretch, and how far a checker has followed them after an instant.
use Rattle.std.specs.Prelude.{◌≡◌, ℕ, ◌+◌, ◌*◌, ◌<◌, ◌≤◌, ◌&&◌, true, List, [], ◌∷◌, ◌++◌, Option, None, Some, nat_lt}
use Rattle.std.specs.Prelude.{if◌then◌else◌}
use Rattle.vme_cert.specs.Vocabulary.{Awaits, Break, Conforming, IsStretchOf, Levels, ListedVerdict, Reset, Row, Step}
use Rattle.vme_cert.specs.Vocabulary.{Stretch, Trace, Verdict, Version, all_rules, are_changes, break_before}
use Rattle.vme_cert.specs.Vocabulary.{capture_limit, is_reset_at, last_instant, least_break, levels_after, outcome_of}
use Rattle.vme_cert.specs.Vocabulary.{recorded_rows, rows_in, stretch_end, stretch_from, stretches_after, with_steps}
use Rattle.vme_cert.specs.Comparing.{Decides}
use Rattle.vme_cert.specs.Following.{CanClose, Follows, rows_to}
use Rattle.vme_cert.specs.Instant.{IsBusOf}
use Rattle.vme_cert.specs.State.{Holds}
use Rattle.vme_cert.specs.declared.checker.Checker.{Checker}
use Rattle.vme_cert.specs.declared.checker.CheckPhase.{CheckPhase}
use Rattle.vme_cert.specs.declared.checker.CheckPhase.TheVariants.{Ended, InStretch, Waiting}
use Rattle.vme_cert.specs.declared.compare.Answer.{Answer}
use Rattle.vme_cert.specs.declared.open_rows.OpenRows.{OpenRows}
use Rattle.vme_cert.specs.declared.state.State.{State}

module _ (t : Trace) where
  -- the row of a reset at an instant of the recording
  abbrev pub reset_at : ℕ → List Row
  reset_at i = if is_reset_at t i && nat_lt i (last_instant t + 1) then Reset i ∷ [] else []

  -- the rows from `stretch` on, by its least break: without one `later` follows, with one the verdict
  abbrev pub rows_by : Stretch → Option Break → List Row → List Row
  rows_by stretch None later = rows_to t stretch stretch.end ++ (reset_at stretch.end ++ later)
  rows_by stretch (Some b) later = rows_to t stretch b.instant ++ Verdict (outcome_of (Some b)) ∷ []

  -- the rows of the stretches in order, up to the verdict: it is `outcome` if there is no stretch
  abbrev pub rows_from : ListedVerdict → List Stretch → List Row
  rows_from outcome [] = Verdict outcome ∷ []
  rows_from outcome (stretch ∷ stretches) = rows_by stretch (least_break t stretch all_rules)
      (rows_from Conforming stretches)

  -- `rows` are the rows of the recording after `done`
  abbrev pub AreRemainingRows : List Row → List Row → Type 0
  AreRemainingRows done rows = done ++ rows ≡ recorded_rows t

module _ {Whole Source : Type 0} (gave : Whole → Source → List Row → Type 0) (is_over : Source → Type 0) (whole : Whole)
    (version : Version) (t : Trace) where
  -- from instant `n` on the next stretch is awaited; `done` are the rows before it
  pub record IsWaiting (n : ℕ) (outcome : ListedVerdict) (rows : OpenRows Source) : Type 0 where
    pub awaits : Awaits t n
    pub done : List Row
    pub all : AreRemainingRows t done (rows_from t outcome (stretches_after t n))
    pub rows_are : CanClose gave is_over whole version done rows

  -- instant `n` is in the stretch from `start`, or is its end, and no rule was broken in it before `n`
  pub record IsInStretch (n : ℕ) (outcome : ListedVerdict) (rows : OpenRows Source) (state : State) : Type 0 where
    pub start : ℕ
    pub is : IsStretchOf t (stretch_from t start)
    pub after : start < n
    pub upto : n ≤ stretch_end t start
    pub unbroken : break_before t (stretch_from t start) all_rules n ≡ None
    pub holds : Holds t (stretch_from t start) n n state
    pub conforms : outcome ≡ Conforming
    pub done : List Row
    pub all : AreRemainingRows t done (rows_by t (stretch_from t start) (least_break t (stretch_from t start) all_rules)
        (rows_from t Conforming (stretches_after t (stretch_end t start + 1))))
    pub rows_are : Follows gave is_over whole version done t (stretch_from t start) n rows

  -- judging has ended: all rows but the verdict have started
  pub record IsEnded (outcome : ListedVerdict) (rows : OpenRows Source) : Type 0 where
    pub done : List Row
    pub all : AreRemainingRows t done (Verdict outcome ∷ [])
    pub rows_are : CanClose gave is_over whole version done rows

  -- the checker is in this phase at instant `n`
  abbrev pub IsPhase : ℕ → ListedVerdict → OpenRows Source → CheckPhase → Type 0
  IsPhase n outcome rows Waiting = IsWaiting n outcome rows
  IsPhase n outcome rows (InStretch state) = IsInStretch n outcome rows state
  IsPhase n outcome rows Ended = IsEnded outcome rows

  -- the recording is followed up to the instant of the checker's bus
  pub record Checks (checker : Checker Source) : Type 0 where
    pub at : IsBusOf t checker.bus
    pub phase_is : IsPhase (checker.bus.instant + 1) checker.outcome checker.rows checker.phase

-- ---- what holds of a checker for its callers, who give it the steps one by one

-- a recording before its first step
abbrev pub at_opening : Levels → Trace
at_opening levels = record { opening = levels; steps = [] }

-- the levels after the last step of a recording
abbrev pub last_levels : Trace → Levels
last_levels t = levels_after t.opening t.steps

-- a step that may be the next of a recording
pub record MayGoOn (recorded : Trace) (step : Step) : Type 0 where
  pub within : last_instant recorded < capture_limit
  pub sound : are_changes (last_levels recorded) 0 step.changes ≡ true

-- the checker has taken the steps of `recorded`
pub record HasFollowed {Source : Type 0} (recorded : Trace) (checker : Checker Source) : Type 0 where
  pub instant : checker.bus.instant ≡ last_instant recorded
  pub levels : checker.bus.levels ≡ last_levels recorded
  -- at most four rows start at an instant: a stretch, a tenure, a cycle and a transfer
  pub few : checker.rows.compared.taken ≤ 4 * checker.bus.instant + 4

-- the checker has compared the given rows with those of each recording that continues `recorded`
abbrev pub HasCompared : {Whole Source : Type 0} → (Whole → Source → List Row → Type 0) → (Source → Type 0) → Whole
    → Version → Trace → Checker Source → Type 0
HasCompared gave is_over whole version recorded checker =
    (more : List Step) → Checks gave is_over whole version (with_steps recorded more) checker

-- `answer` is right for the rows that the source gave of `whole`, compared with those of `recorded`
abbrev pub HasDecided : {Whole Source : Type 0} → (Whole → Source → List Row → Type 0) → (Source → Type 0) → Whole
    → Version → Trace → Source → Answer → Type 0
HasDecided gave is_over whole version recorded source answer =
    (more : List Row) × gave whole source more
    × Decides is_over more (rows_in version (recorded_rows recorded)) source answer
