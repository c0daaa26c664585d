-- Which rules a recording asks: those whose event happens in it. A rule that is never asked can't be broken, so that a
-- recording says nothing of it. A part of a recording begins at its opening or at a break, and is looked at up to its
-- own break (`Parts`). A stretch is judged from an idle instant to a reset or to an unknown control line (`Judged` of
-- vme_trace).
use Rattle.std.specs.Prelude.{ℕ, Bool, false, not, ◌+◌, ◌&&◌, ◌||◌, List, filter, min, nat_lt, Option, None, Some}
use Rattle.std.specs.List.{list_any}
use Rattle.vme_trace.specs.Instants.{any}
use Rattle.vme_trace.specs.LineNumbers.{line_count, AS, DTACK, BERR, is_grant, is_slot_grant, is_slot_iack}
use Rattle.vme_trace.specs.Trace.{Trace, last_instant}
use Rattle.vme_trace.specs.Signals.{falls, rises}
use Rattle.vme_trace.specs.Judged.{Stretch, judged_stretches}
use Rattle.vme_trace.specs.Transfers.{strobe_rises, strobe_falls, answer_falls, transfer_starts, is_write, in_transfer}
use Rattle.vme_trace.specs.Transfers.{is_answer}
use Rattle.vme_trace.specs.Cycles.{cycle_starts, class_at, in_cycle, answers_of}
use Rattle.vme_trace.specs.Tenures.{grant_falls, tenure_starts}
use Rattle.vme_trace.specs.Rules.{all_rules, ends_stretch, has_earlier_answer, is_single, is_block_class, is_interrupt}
use Rattle.vme_trace.specs.declared.rule.Rule.{Rule}
use Rattle.vme_trace.specs.declared.class.Class.{Class}
use Rattle.vme_trace.specs.declared.verdict.Break.{Break}
use Rattle.vme_audit.specs.Event.{Event, event_of}
use Rattle.vme_audit.specs.Event as event
use Rattle.vme_audit.specs.Parts.{Part, parts, own_break}

module _ (t : Trace) where
  -- one of the chosen lines falls at instant j
  abbrev pub falls_on : (ℕ → Bool) → ℕ → Bool
  falls_on chosen j = any (λ l. chosen l && falls t l j) 0 line_count

  -- one of the chosen lines rises at instant j
  abbrev pub rises_on : (ℕ → Bool) → ℕ → Bool
  rises_on chosen j = any (λ l. chosen l && rises t l j) 0 line_count

  -- DTACK or BERR rises at instant j
  abbrev pub answer_rises : ℕ → Bool
  answer_rises j = rises t DTACK j || rises t BERR j

  -- a bus grant out of a slot falls at instant j
  abbrev pub slot_grant_falls : ℕ → Bool
  slot_grant_falls j = falls_on is_slot_grant j

  -- a bus grant out of a slot rises at instant j
  abbrev pub slot_grant_rises : ℕ → Bool
  slot_grant_rises j = rises_on is_slot_grant j

  -- a bus grant of the arbiter or of a slot falls at instant j
  abbrev pub any_grant_falls : ℕ → Bool
  any_grant_falls j = falls_on is_grant j

  -- IACKOUT of a slot falls at instant j
  abbrev pub acknowledge_falls : ℕ → Bool
  acknowledge_falls j = falls_on is_slot_iack j

module _ (t : Trace) (stretch : Stretch) where
  -- a transfer that is a write starts at instant j
  abbrev pub write_starts : ℕ → Bool
  write_starts j = transfer_starts t stretch j && is_write t stretch j

  -- j is in a transfer that started before j
  abbrev pub within_transfer : ℕ → Bool
  within_transfer j = in_transfer t stretch (λ i. nat_lt i j) j

  -- a transfer is answered at j, in a cycle of a chosen class
  abbrev pub answered_in_class : (Class → Bool) → ℕ → Bool
  answered_in_class chosen j = is_answer t stretch j && in_cycle t stretch (λ i. chosen (class_at t i)) j

  -- a transfer is answered at j, in a cycle of a chosen class, and another transfer of that cycle was answered before
  abbrev pub answered_again_in_class : (Class → Bool) → ℕ → Bool
  answered_again_in_class chosen j =
      is_answer t stretch j
      && in_cycle t stretch (λ i. chosen (class_at t i) && has_earlier_answer (answers_of t stretch i j)) j

  -- the event happens at instant j of the stretch, after its start. Judging starts only at the start
  abbrev pub event_happens : Event → ℕ → Bool
  event_happens event.stretch j = false
  event_happens event.cycle j = cycle_starts t stretch j
  event_happens event.cycle_end j = rises t AS j
  event_happens event.transfer j = transfer_starts t stretch j
  event_happens event.write j = write_starts j
  event_happens event.strobe_rise j = strobe_rises t j && within_transfer j
  event_happens event.strobe_fall j = strobe_falls t j && within_transfer j
  event_happens event.answer_fall j = answer_falls t j
  event_happens event.answer_rise j = answer_rises t j
  event_happens event.answer j = is_answer t stretch j
  event_happens event.single_again j = answered_again_in_class is_single j
  event_happens event.block_again j = answered_again_in_class is_block_class j
  event_happens event.interrupt j = answered_in_class is_interrupt j
  event_happens event.interrupt_again j = answered_again_in_class is_interrupt j
  event_happens event.slot_grant_fall j = slot_grant_falls t j
  event_happens event.slot_grant_rise j = slot_grant_rises t j
  event_happens event.arbiter_fall j = grant_falls t j
  event_happens event.grant_fall j = any_grant_falls t j
  event_happens event.tenure j = tenure_starts t stretch j
  event_happens event.acknowledge_fall j = acknowledge_falls t j

  -- the event of rule r happens at instant j of the stretch, after its start. That of U1, by which the stretch would
  -- end, is its start, and is asked for by `asks_in`
  unfoldable pub happens : Rule → ℕ → Bool
  happens r j = event_happens (event_of r) j

-- the first instant that isn't looked at: the one after the break, or without a break the one after the last
abbrev pub asking_end : Trace → Option Break → ℕ
asking_end t None = last_instant t + 1
asking_end t (Some b) = b.instant + 1

-- a recording whose break is `found` asks rule r in the stretch: r is the rule that ends a stretch, or its event
-- happens before the end of the stretch and up to the break
unfoldable pub asks_in : Trace → Option Break → Rule → Stretch → Bool
asks_in t found r stretch = ends_stretch r || any (happens t stretch r) (stretch.start + 1)
    (min stretch.end (asking_end t found))

-- part p asks rule r
unfoldable pub asks : Rule → Part → Bool
asks r p = list_any (asks_in p.trace (own_break p) r) (judged_stretches p.trace)

-- recording t asks rule r
unfoldable pub is_asked : Trace → Rule → Bool
is_asked t r = list_any (asks r) (parts t)

-- the rules that a recording never asks
abbrev pub never_asked : Trace → List Rule
never_asked t = filter (λ r. not (is_asked t r)) all_rules
