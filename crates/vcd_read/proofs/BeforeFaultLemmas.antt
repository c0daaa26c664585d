-- The instants of a body before its first fault are those that the fold has done there, and at most the current one.
use Rattle.std.proofs.Common.{◌≡◌, ℕ, ◌-◌, Bool, true, false, ◌&&◌, cond, List, [], ◌∷◌, ◌++◌, length, Result, Ok, Err}
use Rattle.std.proofs.Common.{refl, sym, ap, ◌∙◌, arith}
use Rattle.std.specs.Prelude.{not, ◌==◌}
use Rattle.std.proofs.lemmas.List.{append-nil, length_push}
use Rattle.vcd_read.specs.declared.dump.Instant.{Instant}
use Rattle.vcd_read.specs.declared.fault.VcdFault.{VcdFault}
use Rattle.vcd_read.specs.Contents.{TimesAscend}
use Rattle.vcd_read.specs.Numbers.{number}
use Rattle.vcd_read.specs.Header.{◌>>=◌, Net}
use Rattle.vcd_read.specs.Body.{BodyItem, time_item, change}
use Rattle.vcd_read.specs.Body.{BodyContext}
use Rattle.vcd_read.specs.Body.{first_context, context_after}
use Rattle.vcd_read.specs.Meaning.{instants_of, items_before_fault}
use Rattle.vcd_read.specs.DumpProgress.{DumpProgress, DumpState, ended, flushed, progress_after, step, steps}
use Rattle.vcd_read.specs.DumpProgress.{values_from}
use Rattle.vcd_read.proofs.InstantsLaw.{at_start, ended-instants_of, TimesAscend-instants_of}

-- the state before the first of the items that is a fault, or after all of them
abbrev pub state_before_fault : List Net → DumpState → List BodyItem → DumpState
state_before_fault nets s [] = s
state_before_fault nets s (item ∷ items) = elim (step nets s item) [
  | Ok next ↦ state_before_fault nets next items
  | Err fault ↦ s
]

-- the state with the progress `p`, if the context is no fault
abbrev pub with_progress : DumpProgress → Result BodyContext VcdFault → Result DumpState VcdFault
with_progress p r = r >>= λ next. Ok (record { context = next; progress = p })

-- the state before the first fault of `items` from the state `r` on, or `s` where `r` is a fault
abbrev pub state_reached_after : List Net → DumpState → List BodyItem → Result DumpState VcdFault → DumpState
state_reached_after nets s items r = elim r as (λ _. DumpState) [
  | Ok next ↦ state_before_fault nets next items
  | Err fault ↦ s
]

-- ---- the items before the first fault have no fault

-- an item, and then items that are read up to the state before their first fault, are read so
steps-items_before_fault_item : (nets : List Net) (s : DumpState) (item : BodyItem) (items : List BodyItem)
    (stood : Result BodyContext VcdFault) → context_after nets s.context item ≡ stood
    → ((next : DumpState) → steps nets next (items_before_fault nets next.context items)
    ≡ Ok (state_before_fault nets next items))
    → steps nets s (elim stood [
      | Ok next ↦ item ∷ items_before_fault nets next items
      | Err fault ↦ []
    ])
    ≡ Ok (state_reached_after nets s items (with_progress (progress_after nets s.progress item) stood))
unfolding steps
steps-items_before_fault_item nets s item items (Ok next) e rest =
    rw e (rest (record { context = next; progress = progress_after nets s.progress item }))
steps-items_before_fault_item nets s item items (Err fault) e rest = refl

-- the items before the first fault are read without one, up to the state before it
steps-items_before_fault : (nets : List Net) (s : DumpState) (items : List BodyItem) → steps nets s
    (items_before_fault nets s.context items) ≡ Ok (state_before_fault nets s items)
unfolding steps items_before_fault
steps-items_before_fault nets s [] = refl
steps-items_before_fault nets s (item ∷ items) = steps-items_before_fault_item nets s item items
    (context_after nets s.context item) refl
    (λ next. steps-items_before_fault nets next items)

-- ---- if there is no instant at the current time, none is before it

-- if there is no instant at the current time, none is done
abbrev Starts : DumpProgress → Type 0
Starts p = p.has_instant ≡ false → p.done ≡ []

-- after a time there is an instant at the current time, whether it ended one (`test`) or not
Starts-time : (test : Bool) (p : DumpProgress) (t : ℕ) → Starts (cond test (record (flushed p)
    { time = t; has_instant = true }) (record p { time = t; has_instant = true }))
Starts-time true p t e = absurd (cc e)
Starts-time false p t e = absurd (cc e)

-- an item keeps `Starts`
Starts-item : (nets : List Net) (p : DumpProgress) (item : BodyItem) → Starts p → Starts (progress_after nets p item)
Starts-item nets p (time_item line digits) h = Starts-time (p.has_instant && not (number digits == p.time)) p
    (number digits)
Starts-item nets p (change line digits code) h = λ e. absurd (cc e)
Starts-item nets p item h = h

-- an item, and then items that keep `Starts` up to their first fault, keep it so
Starts-state_before_fault_item : (nets : List Net) (s : DumpState) (item : BodyItem) (items : List BodyItem)
    (stood : Result BodyContext VcdFault) → Starts s.progress
    → ((next : DumpState) → Starts next.progress → Starts (state_before_fault nets next items).progress)
    → Starts (state_reached_after nets s items (with_progress (progress_after nets s.progress item) stood)).progress
Starts-state_before_fault_item nets s item items (Ok next) h rest =
    rest (record { context = next; progress = progress_after nets s.progress item })
    (Starts-item nets s.progress item h)
Starts-state_before_fault_item nets s item items (Err fault) h rest = h

-- items keep `Starts` up to their first fault
Starts-state_before_fault : (nets : List Net) (s : DumpState) (items : List BodyItem) → Starts s.progress
    → Starts (state_before_fault nets s items).progress
Starts-state_before_fault nets s [] h = h
Starts-state_before_fault nets s (item ∷ items) h = Starts-state_before_fault_item nets s item items
    (context_after nets s.context item) h
    (λ next started. Starts-state_before_fault nets next items started)

-- ---- the current instant is the last

-- the instants that are done are all but the last, which is `x` if there is an instant at the current time; if there is
-- none, no instant is done
done-all_but_last : (has_instant : Bool) (done : List Instant) (x : Instant) → (has_instant ≡ false → done ≡ [])
    → (rest : List Instant) × (cond has_instant (done ++ x ∷ []) done ≡ done ++ rest)
    × (length done ≡ length (cond has_instant (done ++ x ∷ []) done) - 1)
done-all_but_last true done x h = (x ∷ [], refl, omega (arith, length_push done x))
done-all_but_last false done x h = let e = ap (λ (xs : List Instant). length xs) (h refl) in
    ([], sym (append-nil done), omega (arith, e))

-- the instants before the first fault are those that are done, and at most one more
pub instants_of-before_fault : (nets : List Net) (items : List BodyItem)
    → (rest : List Instant) × (instants_of nets (items_before_fault nets first_context items)
    ≡ (state_before_fault nets (at_start nets) items).progress.done ++ rest)
    × (length (state_before_fault nets (at_start nets) items).progress.done
    ≡ length (instants_of nets (items_before_fault nets first_context items)) - 1)
instants_of-before_fault nets items =
    let w : DumpState = state_before_fault nets (at_start nets) items in
    let law : ended w.progress ≡ instants_of nets (items_before_fault nets first_context items) = ended-instants_of nets
    (items_before_fault nets first_context items) w (steps-items_before_fault nets (at_start nets) items) in
    let hand = done-all_but_last w.progress.has_instant w.progress.done
    (record { time = w.progress.time; values = values_from 0 w.progress.current })
    (Starts-state_before_fault nets (at_start nets) items (λ e. refl)) in (
      hand.0,
      sym law ∙ hand.1,
      hand.2 ∙ ap (λ (xs : List Instant). length xs - 1) law,
    )

-- the times of the instants before the first fault ascend
pub TimesAscend-before_fault : (nets : List Net) (items : List BodyItem) → TimesAscend
    (instants_of nets (items_before_fault nets first_context items))
TimesAscend-before_fault nets items = TimesAscend-instants_of nets (items_before_fault nets first_context items)
    (state_before_fault nets (at_start nets) items) (steps-items_before_fault nets (at_start nets) items)
