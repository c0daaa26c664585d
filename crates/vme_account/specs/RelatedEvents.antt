-- What a break refers to besides its own edge: the edges before it that make it a break.
use Rattle.std.specs.Prelude.{ℕ, Bool, ◌+◌, ◌-◌, ◌||◌, Option, None, Some, unwrap_or, if◌then◌else◌}
use Rattle.vme_trace.specs.Edges.{answer_between, starts_between}
use Rattle.vme_trace.specs.Instants.{greatest, least}
use Rattle.vme_trace.specs.LineNumbers.{AS, DS0, DS1, DTACK, BBSY, BR, grant, grant_level, is_grant}
use Rattle.vme_trace.specs.Levels.{Levels}
use Rattle.vme_trace.specs.Trace.{Trace, levels_at}
use Rattle.vme_trace.specs.declared.rule.Rule.{Rule}
use Rattle.vme_trace.specs.declared.rule.Rule.TheVariants as rule
use Rattle.vme_chains.specs.GrantLevels.{falls_between, rises_between}
use Rattle.vme_account.specs.declared.related_event.StepEvent.{StepEvent}
use Rattle.vme_account.specs.declared.related_event.StepEvent.TheVariants.{Falls, Rises, StrobeRises, TransferStarts}
use Rattle.vme_account.specs.declared.related_event.StepEvent.TheVariants.{AnswerFalls, GrantFalls}
use Rattle.vme_account.specs.declared.related_event.RelatedEvent.{RelatedEvent}
use Rattle.vme_account.specs.declared.related_event.Occurrence.{Occurrence}
use Rattle.vme_account.specs.declared.related_event.Occurrence.TheVariants.{Last, LastOrNow, FirstInTransfer}
use Rattle.vme_account.specs.declared.related_event.Occurrence.TheVariants.{FirstInCycle}

-- the event happens in a step between levels `v` and `w`; a line that the backplane lacks neither falls nor rises
abbrev pub happens_between : Levels → Levels → StepEvent → Bool
happens_between v w (Falls l) = falls_between v w l
happens_between v w (Rises l) = rises_between v w l
happens_between v w StrobeRises = rises_between v w DS0 || rises_between v w DS1
happens_between v w TransferStarts = starts_between v w
happens_between v w AnswerFalls = answer_between v w
happens_between v w GrantFalls =
    falls_between v w (grant 0 0) || falls_between v w (grant 1 0) || falls_between v w (grant 2 0) || falls_between v w
    (grant 3 0)

-- the event happens at instant `i`
unfoldable pub happens : Trace → StepEvent → ℕ → Bool
happens t e i = happens_between (levels_at t (i - 1)) (levels_at t i) e

-- The instant of the event that a break at instant `j` refers to, in the stretch judged from instant `s` on.
module _ (t : Trace) where
  -- the last instant of the event up to `j`, or else the first judged instant
  abbrev pub since : StepEvent → ℕ → ℕ → ℕ
  since e s j = unwrap_or (greatest (happens t e) (s + 1) (j + 1)) (s + 1)

  -- the instant of this occurrence of event `e`, for a break at `j`
  abbrev pub searched : Occurrence → StepEvent → ℕ → ℕ → Option ℕ
  searched Last e s j = greatest (happens t e) (s + 1) j
  searched LastOrNow e s j = greatest (happens t e) (s + 1) (j + 1)
  searched FirstInTransfer e s j = least (happens t e) (since TransferStarts s j) j
  searched FirstInCycle e s j = least (happens t e) (since (Falls AS) s j) j

  -- the instant of a related event, for a break at `j`
  abbrev pub instant_of : RelatedEvent → ℕ → ℕ → Option ℕ
  instant_of o s j = searched o.occurrence o.event s j

-- the last occurrence of event `e` before the break
abbrev pub last : StepEvent → Option RelatedEvent
last e = Some (record { event = e; occurrence = Last })

-- The event that a rule refers to besides the edge on line `l` that breaks it.
abbrev pub first_related_event : Rule → ℕ → Option RelatedEvent
-- the answer that hasn't ended, and the one that ends too early
first_related_event rule.H1 l = last (Falls l)
first_related_event rule.H6 l = last (Falls l)
-- the transfer that isn't answered, and the write that moves the line
first_related_event rule.H2 l = last TransferStarts
first_related_event rule.H7 l = last TransferStarts
first_related_event rule.S2 l = last TransferStarts
first_related_event rule.S3 l = last TransferStarts
-- the answer that was given
first_related_event rule.H3 l = Some (record { event = AnswerFalls; occurrence = FirstInTransfer })
first_related_event rule.H5 l = Some (record { event = AnswerFalls; occurrence = FirstInTransfer })
-- the end of the transfer before
first_related_event rule.H4 l = last StrobeRises
-- the end of the cycle before
first_related_event rule.H8 l = last (Rises AS)
-- the cycle that needs the line
first_related_event rule.S1 l = last (Falls AS)
-- the interrupt acknowledge, which may start with its answer
first_related_event rule.I4 l = Some (record { event = Falls AS; occurrence = LastOrNow })
-- the first answer of the cycle
first_related_event rule.C1 l = Some (record { event = AnswerFalls; occurrence = FirstInCycle })
first_related_event rule.C2 l = Some (record { event = AnswerFalls; occurrence = FirstInCycle })
first_related_event rule.I5 l = Some (record { event = AnswerFalls; occurrence = FirstInCycle })
first_related_event rule.I3 l = Some (record { event = Falls DTACK; occurrence = FirstInCycle })
-- the tenure that was begun, and the one that was ended
first_related_event rule.G4 l = last (Falls BBSY)
first_related_event rule.B2 l = last (Falls BBSY)
first_related_event rule.B3 l = last (Rises BBSY)
-- the grant before
first_related_event rule.G5 l = last GrantFalls
first_related_event rule.B1 l = last GrantFalls
first_related_event r l = None

-- The second event that a rule refers to.
abbrev pub second_related_event : Rule → ℕ → Option RelatedEvent
-- the request of the level
second_related_event rule.G5 l = if is_grant l then last (Falls (BR (grant_level l))) else None
-- the grant by which the tenure before was taken
second_related_event rule.B2 l = last GrantFalls
second_related_event r l = None
