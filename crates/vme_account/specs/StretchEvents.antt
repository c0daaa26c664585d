-- When each event last happened in a stretch, up to its break and before it.
use Rattle.std.specs.Prelude.{◌-◌, ◌==◌, ◌<◌, ◌≤◌, ℕ, Bool, true, false, nat_lt, Option, None, Some, IfSome}
use Rattle.std.specs.Prelude.{if◌then◌else◌}
use Rattle.vme_trace.specs.LineNumbers.{AS, DTACK, line_count}
use Rattle.vme_trace.specs.Trace.{Trace}
use Rattle.vme_account.specs.LastEvents.{AreLast, first_in_cycle, last_of}
use Rattle.vme_account.specs.declared.last_events.LastEvents.{LastEvents}
use Rattle.vme_account.specs.declared.last_events.Moment.{Moment}
use Rattle.vme_account.specs.declared.related_event.Occurrence.{Occurrence}
use Rattle.vme_account.specs.declared.related_event.Occurrence.TheVariants.{Last, LastOrNow, FirstInTransfer}
use Rattle.vme_account.specs.declared.related_event.Occurrence.TheVariants.{FirstInCycle}
use Rattle.vme_account.specs.declared.related_event.RelatedEvent.{RelatedEvent}
use Rattle.vme_account.specs.declared.related_event.StepEvent.{StepEvent}
use Rattle.vme_account.specs.declared.related_event.StepEvent.TheVariants.{AnswerFalls, Falls, Rises, TransferStarts}
use Rattle.vme_account.specs.declared.stretch_events.StretchEvents.{StretchEvents}

-- `e` are the last events of the stretch up to its last instant, and up to the one before, if those are kept
pub record AreEvents (t : Trace) (e : StretchEvents) : Type 0 where
  pub start : e.start ≤ e.seen
  pub last : AreLast t e.start e.seen e.last
  pub before : IfSome e.before (λ b. (e.start < e.seen) × AreLast t e.start (e.seen - 1) b)

-- ---- which moments are known

-- the moment is at instant `j`
abbrev pub is_at : Option Moment → ℕ → Bool
is_at None j = false
is_at (Some m) j = m.instant == j

-- event `k` happens at instant `j`, by the last events up to `j`; of an answer this is never known
abbrev pub is_now : LastEvents → ℕ → StepEvent → Bool
is_now now j k = is_at (last_of now k) j

-- the moment of event `k` that is meant, by the events up to instant `j` (`now`) and up to the one before (`before`)
abbrev pub moment_before : LastEvents → ℕ → LastEvents → Occurrence → StepEvent → Option Moment
moment_before now j before Last k = last_of before k
moment_before now j before LastOrNow k = last_of now k
moment_before now j before FirstInTransfer k = if is_now now j TransferStarts then None else before.answer_in_transfer
moment_before now j before FirstInCycle k = if is_now now j (Falls AS) then None else first_in_cycle before k

-- the event is the fall of an answer line
abbrev pub is_answer : StepEvent → Bool
is_answer AnswerFalls = true
is_answer e = false

-- the last time of the event is known
abbrev pub is_kept_last : StepEvent → Bool
is_kept_last AnswerFalls = false
is_kept_last (Falls l) = nat_lt l line_count
is_kept_last (Rises l) = nat_lt l line_count
is_kept_last e = true

-- the first time of the event in a cycle is known
abbrev pub is_kept_first : StepEvent → Bool
is_kept_first AnswerFalls = true
is_kept_first (Falls l) = l == DTACK
is_kept_first e = false

-- Whether it is known when an event happened: of an answer the first time, of other events the last time, and of a fall
-- of DTACK also the first time in the cycle.
abbrev pub is_kept_at : Occurrence → StepEvent → Bool
is_kept_at Last e = is_kept_last e
is_kept_at LastOrNow e = is_kept_last e
is_kept_at FirstInTransfer e = is_answer e
is_kept_at FirstInCycle e = is_kept_first e

-- it is known when the related event happened
abbrev pub is_kept : RelatedEvent → Bool
is_kept other = is_kept_at other.occurrence other.event
