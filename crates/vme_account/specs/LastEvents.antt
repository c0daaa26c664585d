-- When each event last happened in the judged stretch, up to some instant.
use Rattle.std.specs.Prelude.{◌≡◌, ◌+◌, ◌<◌, ◌≤◌, nat_le, ℕ, Bool, List, Option, None, Some, is_some}
use Rattle.std.specs.Prelude.{if◌then◌else◌, length, replicate}
use Rattle.std.specs.Prelude.{slice_index_or, slice_set, option_map}
use Rattle.std.specs.List.{fold}
use Rattle.vme_trace.specs.Edges.{answer_between, starts_between}
use Rattle.vme_trace.specs.Instants.{greatest, least}
use Rattle.vme_trace.specs.Levels.{Levels}
use Rattle.vme_trace.specs.LineNumbers.{AS, BERR, DS0, DS1, DTACK, grant, line_count}
use Rattle.vme_trace.specs.Trace.{Trace, levels_at, time_at}
use Rattle.vme_trace.specs.declared.step.Change.{Change}
use Rattle.vme_chains.specs.GrantLevels.{falls_between, rises_between}
use Rattle.vme_account.specs.RelatedEvents.{happens, since}
use Rattle.vme_account.specs.declared.last_events.LastEvents.{LastEvents}
use Rattle.vme_account.specs.declared.last_events.Moment.{Moment}
use Rattle.vme_account.specs.declared.related_event.StepEvent.{StepEvent}
use Rattle.vme_account.specs.declared.related_event.StepEvent.TheVariants.{AnswerFalls, Falls, GrantFalls, Rises}
use Rattle.vme_account.specs.declared.related_event.StepEvent.TheVariants.{StrobeRises, TransferStarts}

-- ---- one step more

-- no event has happened yet
abbrev pub no_events : LastEvents
no_events =
    record {
      falls = replicate line_count None;
      rises = replicate line_count None;
      transfer = None;
      answer_in_transfer = None;
      answer_in_cycle = None;
      dtack_in_cycle = None;
    }

-- the table with moment `m` for each line that changes and that `is` holds of
abbrev pub noted : (ℕ → Bool) → Moment → List (Option Moment) → List Change → List (Option Moment)
noted is m table cs = fold (λ table c. if is c.line then slice_set table c.line (Some m) else table) table cs

-- moment `m` if the event happens now, or else the moment before
abbrev pub now_or : Bool → Moment → Option Moment → Option Moment
now_or is m before = if is then Some m else before

-- the moment before, unless it is forgotten now
abbrev pub unless : Bool → Option Moment → Option Moment
unless is before = if is then None else before

-- the moment before, if there is one; else `m` if the event happens now
abbrev pub first_or : Bool → Moment → Option Moment → Option Moment
first_or is m before = if is_some before then before else if is then Some m else None

-- the handshake's moments after a step, by whether a transfer starts, an answer comes, a cycle begins, DTACK answers
abbrev pub handshake_after : Bool → Bool → Bool → Bool → Moment → LastEvents → LastEvents
handshake_after starts answers begins by_dtack m e =
    record e {
      transfer = now_or starts m e.transfer;
      answer_in_transfer = first_or answers m (unless starts e.answer_in_transfer);
      answer_in_cycle = first_or answers m (unless begins e.answer_in_cycle);
      dtack_in_cycle = first_or by_dtack m (unless begins e.dtack_in_cycle);
    }

-- the last events after a step from levels `v` to `w`
abbrev pub last_after : Levels → Levels → List Change → Moment → LastEvents → LastEvents
last_after v w cs m e =
    record {
      falls = noted (falls_between v w) m e.falls cs;
      rises = noted (rises_between v w) m e.rises cs;
      transfer = now_or (starts_between v w) m e.transfer;
      answer_in_transfer = first_or (answer_between v w) m (unless (starts_between v w) e.answer_in_transfer);
      answer_in_cycle = first_or (answer_between v w) m (unless (falls_between v w AS) e.answer_in_cycle);
      dtack_in_cycle = first_or (falls_between v w DTACK) m (unless (falls_between v w AS) e.dtack_in_cycle);
    }

-- ---- when an event happened last

-- the later of `m` and another moment, if there is one
abbrev pub later_of : Moment → Option Moment → Option Moment
later_of m None = Some m
later_of m (Some n) = if nat_le m.instant n.instant then Some n else Some m

-- the later of two moments, or the one that there is
abbrev pub later : Option Moment → Option Moment → Option Moment
later None other = other
later (Some m) other = later_of m other

-- when line l fell last
abbrev pub last_fall : LastEvents → ℕ → Option Moment
last_fall e l = slice_index_or e.falls l None

-- when line l rose last
abbrev pub last_rise : LastEvents → ℕ → Option Moment
last_rise e l = slice_index_or e.rises l None

-- when an event last happened; none for an answer
abbrev pub last_of : LastEvents → StepEvent → Option Moment
last_of e (Falls l) = last_fall e l
last_of e (Rises l) = last_rise e l
last_of e StrobeRises = later (last_rise e DS0) (last_rise e DS1)
last_of e TransferStarts = e.transfer
last_of e AnswerFalls = None
last_of e GrantFalls =
    later (later (later (last_fall e (grant 0 0)) (last_fall e (grant 1 0))) (last_fall e (grant 2 0)))
    (last_fall e (grant 3 0))

-- when an answer first fell in the cycle, if the event is an answer, or else when DTACK first fell there
abbrev pub first_in_cycle : LastEvents → StepEvent → Option Moment
first_in_cycle e AnswerFalls = e.answer_in_cycle
first_in_cycle e k = e.dtack_in_cycle

-- ---- in a recording

-- an instant with its time, and whether an answer line falls there
abbrev pub moment_at : Trace → ℕ → Moment
moment_at t i =
    record {
      instant = i;
      time = time_at t i;
      dtack_falls = happens t (Falls DTACK) i;
      berr_falls = happens t (Falls BERR) i;
    }

-- an instant that is found, with its time and its answer lines
abbrev pub moment : Trace → Option ℕ → Option Moment
moment t found = option_map (moment_at t) found

-- In the stretch judged from instant `s` on, `e` are the last events up to instant `i`, and the first answers since the
-- last transfer and since the last cycle started, or since judging started.
pub record AreLast (t : Trace) (s i : ℕ) (e : LastEvents) : Type 0 where
  pub all_falls : length e.falls ≡ line_count
  pub all_rises : length e.rises ≡ line_count
  pub falls : (l : ℕ) → l < line_count
      → slice_index_or e.falls l None ≡ moment t (greatest (happens t (Falls l)) (s + 1) (i + 1))
  pub rises : (l : ℕ) → l < line_count
      → slice_index_or e.rises l None ≡ moment t (greatest (happens t (Rises l)) (s + 1) (i + 1))
  pub transfer : e.transfer ≡ moment t (greatest (happens t TransferStarts) (s + 1) (i + 1))
  pub answer_in_transfer : e.answer_in_transfer
      ≡ moment t (least (happens t AnswerFalls) (since t TransferStarts s i) (i + 1))
  pub answer_in_cycle : e.answer_in_cycle
      ≡ moment t (least (happens t AnswerFalls) (since t (Falls AS) s i) (i + 1))
  pub dtack_in_cycle : e.dtack_in_cycle
      ≡ moment t (least (happens t (Falls DTACK)) (since t (Falls AS) s i) (i + 1))

-- By the step to `instant` at `time`, from levels `before` to `after`, the last events `old` up to the instant before
-- become `new`, those up to `instant`.
abbrev pub AreLastNext : LastEvents → LastEvents → Levels → Levels → ℕ → ℕ → Type 0
AreLastNext old new before after instant time =
    (t : Trace) (s i : ℕ) → AreLast t s i old → s ≤ i → instant ≡ i + 1 → before ≡ levels_at t i
    → after ≡ levels_at t (i + 1) → time ≡ time_at t (i + 1) → AreLast t s (i + 1) new
