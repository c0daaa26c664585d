-- The changes of a recording are put into its dump one after another, each where the dump comes to its time.
use Rattle.std.proofs.Common.{◌≡◌, ℕ, zero, suc, ◌+◌, ◌-◌, ◌<◌, ◌≤◌, List, [], ◌∷◌, ◌++◌, drop, get_or, length, map}
use Rattle.std.proofs.Common.{take}
use Rattle.std.proofs.Common.{refl, sym, ap, subst, ◌∙◌, arith}
use Rattle.std.specs.Prelude.{max, slice_get}
use Rattle.std.proofs.lemmas.List.{get_or-map, get_or_default, length-map, map-append, take_more}
use Rattle.std.proofs.lemmas.List.Sorted.{All-permutation}
use Rattle.vcd_places.specs.Places.{IsAtTime, times_of_body}
use Rattle.vcd_places.specs.Times.{IsAscendingFrom, IsReached}
use Rattle.vme_trace.specs.Streams.{Writing}
use Rattle.vme_trace.specs.Trace.{Trace, last_instant, time_at, time_of}
use Rattle.vme_trace.specs.declared.step.Step.{Step}
use Rattle.vme_listing.specs.Recorded.{recorded_rows}
use Rattle.vme_annotation.specs.Annotated.{ArePutAt, change_text, shown_time}
use Rattle.vme_annotation.specs.Inserted.{PutChange, change_of}
use Rattle.vme_annotation.specs.Shown.{ShownChange, all_changes}
use Rattle.vme_annotate.specs.HasTimes.{HasTimes}
use Rattle.vme_annotate.specs.Outputs.{HasPut, Held}
use Rattle.vme_annotate.specs.Planned.{ArePlanned, planned}
use Rattle.vme_annotate.specs.TimedListings.{IsTimedListingOf, TimedListingValue, times_of}
use Rattle.vme_annotate.specs.Writing.{IsWrittenTo}
use Rattle.vme_annotate.specs.declared.changes.PlannedChange.{PlannedChange}
use Rattle.vme_annotate.specs.declared.inserting.WritingPlace.{WritingPlace}
use Rattle.vme_annotate.proofs.InsertLemmas.{ArePlacedTo, written_front-bytes, written_front-change, ArePlacedTo-push}
use Rattle.vme_annotate.proofs.InsertLemmas.{ArePlacedTo-later_end}
use Rattle.vme_annotate.proofs.InsertLemmas.{ArePutAt-push, written_front}

-- ---- the times of instants

-- the time at an index is that of the step there, or 0
times_of-time_of : (steps : List Step) (i : ℕ) → get_or (times_of steps) i 0 ≡ time_of (slice_get steps i)
times_of-time_of [] zero = refl
times_of-time_of [] (suc i) = refl
times_of-time_of (step ∷ steps) zero = refl
times_of-time_of (step ∷ steps) (suc i) = times_of-time_of steps i

-- the time at which an instant is shown is found among the times of the steps
pub times_of-shown_time : (t : Trace) (instant : ℕ) → get_or (times_of t.steps) (max instant 1 - 1) 0
    ≡ shown_time t instant
times_of-shown_time t instant =
    let next : suc (max instant 1 - 1) ≡ max instant 1 = omega arith in
    times_of-time_of t.steps (max instant 1 - 1) ∙ ap (time_at t) next

-- ---- the times of instants don't go back

-- if `f` doesn't go back up to `last`, it doesn't if 1 is taken for 0
max_one-ordered : (f : ℕ → ℕ) (last : ℕ) → ((i j : ℕ) → i ≤ j → j ≤ last → f i ≤ f j) → (a b : ℕ) → a ≤ b → b ≤ last
    → f (max a 1) ≤ f (max b 1)
max_one-ordered f last ordered a zero le in_it =
    let none : a ≡ zero = omega (arith, le) in
    let same : f (max a 1) ≡ f (max zero 1) = ap (λ (n : ℕ). f (max n 1)) none in omega (arith, same)
max_one-ordered f last ordered a (suc b) le in_it =
    ordered (max a 1) (max (suc b) 1) (omega (arith, le)) (omega (arith, in_it))

module _ (dump : List ℕ) (t : Trace) (changes : List PlannedChange) (has : HasTimes dump t)
    (are : ArePlanned (recorded_rows t) changes) where
  -- each change is at an instant of the recording
  instant-in_recording : (i : ℕ) (d : PlannedChange) → i < length changes
      → (get_or changes i d).instant ≤ last_instant t
  instant-in_recording i d lt =
      let rows = recorded_rows t in
      let each = All-permutation (λ (c : ShownChange). c.instant ≤ last_instant t) (all_changes rows)
      (map (planned rows) changes) are.moved has.within in
      let many : i < length (map (planned rows) changes) =
      subst (λ (n : ℕ). i < n) (sym (length-map changes (planned rows))) lt in
      subst (λ (c : ShownChange). c.instant ≤ last_instant t)
      (get_or-map (planned rows) changes i d (planned rows d) lt) (each i (planned rows d) many)

  -- a later change isn't shown before an earlier one
  pub shown_time-ordered : (i j : ℕ) (d : PlannedChange) → i ≤ j → j < length changes
      → shown_time t (get_or changes i d).instant ≤ shown_time t (get_or changes j d).instant
  shown_time-ordered i j d le lt =
      max_one-ordered (time_at t) (last_instant t) has.ordered (get_or changes i d).instant (get_or changes j d).instant
      (are.sorted i j d le lt) (instant-in_recording j d lt)

-- ---- what is written so far

-- no change from index `done` on is shown before the time `asked`
abbrev pub IsAhead : Trace → List PlannedChange → ℕ → ℕ → Type 0
IsAhead t changes done asked = (i : ℕ) (d : PlannedChange) → done ≤ i → i < length changes
    → asked ≤ shown_time t (get_or changes i d).instant

-- the changes `put` are at their times, the dump is written up to a time, and no later change is shown before it
pub record ArePutSoFar (dump : List ℕ) (t : Trace) (changes : List PlannedChange) (start done : ℕ)
    (put : List PutChange) (w : WritingPlace) : Type 0 where
  pub placed : ArePutAt dump t start put
  pub asked : ℕ
  pub written : IsWrittenTo dump asked asked w
  pub ahead : IsAhead t changes done asked

-- the first `done` changes are put; if they are those of a recording whose times the dump has, they are put at the
-- times of their instants
pub record IsPutSoFar (dump : List ℕ) (found : TimedListingValue) (changes : List PlannedChange) (start done : ℕ)
    (put : List PutChange) (w : WritingPlace) : Type 0 where
  pub are : map change_of put ≡ map (planned found.listing.rows) (take done changes)
  pub to : ArePlacedTo start put w.count
  pub at_times : (t : Trace) → IsTimedListingOf t found → HasTimes dump t → ArePlanned (recorded_rows t) changes
      → ArePutSoFar dump t changes start done put w

-- at first no change is put
pub IsPutSoFar-start : (dump : List ℕ) (found : TimedListingValue) (changes : List PlannedChange) (start : ℕ)
    (w : WritingPlace)
    → start ≤ w.count → IsWrittenTo dump 0 0 w → IsPutSoFar dump found changes start 0 [] w
IsPutSoFar-start dump found changes start w le written = record {
  are = refl;
  to = le;
  at_times = λ t timed has planned. record {
    placed = tt;
    asked = 0;
    written = written;
    ahead = λ i d le lt. omega arith;
  };
}

-- the change `c`, which has the index `done`, is put at `new.count`
module _ (dump : List ℕ) (found : TimedListingValue) (changes : List PlannedChange) (start done : ℕ)
    (put : List PutChange) (old new : WritingPlace) (so_far : IsPutSoFar dump found changes start done put old)
    (c : PlannedChange) (some : done < length changes) (is : (d : PlannedChange) → get_or changes done d ≡ c) (time : ℕ)
    (time_is : time ≡ get_or found.times (max c.instant 1 - 1) 0) (forward : old.count ≤ new.count)
    (reaches_time : (asked : ℕ) → IsWrittenTo dump asked asked old → asked ≤ time → IsReached dump time
    → IsAscendingFrom 0 (times_of_body dump) → IsWrittenTo dump time time new) where
  -- the change `c` at its place
  abbrev pub one_more : PutChange
  one_more = record { place = new.count; change = planned found.listing.rows c }

  module _ (t : Trace) (timed : IsTimedListingOf t found) (has : HasTimes dump t)
      (all : ArePlanned (recorded_rows t) changes) where
    -- the time is that at which the instant of `c` is shown
    time-shown_time : time ≡ shown_time t c.instant
    time-shown_time =
        time_is ∙ ap (λ (times : List ℕ). get_or times (max c.instant 1 - 1) 0) timed.times_are
        ∙ times_of-shown_time t c.instant

    -- with `c`, the changes that are put are at their times
    ArePutSoFar-one_more : ArePutSoFar dump t changes start (done + 1) (put ++ one_more ∷ []) new
    ArePutSoFar-one_more =
        let before = so_far.at_times t timed has all in
        let here : (get_or changes done c).instant ≡ c.instant = ap (λ (d : PlannedChange). d.instant) (is c) in
        let le : before.asked ≤ time =
        omega (arith, before.ahead done c (omega arith) some, ap (shown_time t) here, time-shown_time) in
        let reached : IsReached dump time = subst (IsReached dump) (sym time-shown_time) (has.reached (max c.instant 1))
        in
        let written = reaches_time before.asked before.written le reached has.sorted in
        record {
          placed = ArePutAt-push dump t start put one_more before.placed
              (ArePlacedTo-later_end start put old.count new.count so_far.to forward)
              (subst (λ (at : ℕ). IsAtTime dump at new.count) time-shown_time written.at);
          asked = time;
          written = written;
          ahead = λ i d later lt.
              let next = shown_time-ordered dump t changes has all done i d (omega (arith, later)) lt in
              let same : (get_or changes done d).instant ≡ c.instant = ap (λ (e : PlannedChange). e.instant) (is d) in
              omega (arith, next, ap (shown_time t) same, time-shown_time);
        }

  -- with `c`, one more change is put
  pub IsPutSoFar-one_more : IsPutSoFar dump found changes start (done + 1) (put ++ one_more ∷ []) new
  IsPutSoFar-one_more = record {
    are = map-append change_of put (one_more ∷ [])
        ∙ ap (λ (l : List ShownChange). l ++ planned found.listing.rows c ∷ []) so_far.are
        ∙ sym (ap (map (planned found.listing.rows)) (take_more changes done c some
        ∙ ap (λ (d : PlannedChange). take done changes ++ d ∷ []) (is c))
        ∙ map-append (planned found.listing.rows) (take done changes) (c ∷ []));
    to = ArePlacedTo-push start put one_more (ArePlacedTo-later_end start put old.count new.count so_far.to forward);
    at_times = ArePutSoFar-one_more;
  }

-- the change with the index `done` is put at `new.count`
pub IsPutSoFar-next : (dump : List ℕ) (found : TimedListingValue) (changes : List PlannedChange) (start done : ℕ)
    (put : List PutChange) (old new : WritingPlace) → IsPutSoFar dump found changes start done put old
    → (d : PlannedChange) → done < length changes → (time : ℕ)
    → time ≡ get_or found.times (max (get_or changes done d).instant 1 - 1) 0 → old.count ≤ new.count
    → ((asked : ℕ) → IsWrittenTo dump asked asked old → asked ≤ time → IsReached dump time
    → IsAscendingFrom 0 (times_of_body dump) → IsWrittenTo dump time time new)
    → IsPutSoFar dump found changes start (done + 1)
    (put ++ record { place = new.count; change = planned found.listing.rows (get_or changes done d) } ∷ []) new
IsPutSoFar-next dump found changes start done put old new so_far d some time time_is forward reaches_time =
    IsPutSoFar-one_more dump found changes start done put old new so_far (get_or changes done d) some
    (λ (e : PlannedChange). get_or_default changes done e d some) time time_is forward reaches_time

-- the bytes up to the change with the index `done`, and that change, are written
pub HasPut-next : (dump scope : List ℕ) (own : List (List ℕ)) (found : TimedListingValue)
    (changes : List PlannedChange) (start done : ℕ) (put : List PutChange) (old new : WritingPlace)
    → IsPutSoFar dump found changes start done put old → (d : PlannedChange) → done < length changes → (time : ℕ)
    → time ≡ get_or found.times (max (get_or changes done d).instant 1 - 1) 0 → old.count ≤ new.count
    → ((asked : ℕ) → IsWrittenTo dump asked asked old → asked ≤ time → IsReached dump time
    → IsAscendingFrom 0 (times_of_body dump) → IsWrittenTo dump time time new)
    → (sink now : Writing) (b : Held)
    → HasPut sink now b (written_front dump scope own start put old.count
    ++ take (new.count - old.count) (drop old.count dump)
    ++ change_text own (planned found.listing.rows (get_or changes done d)))
    → (more : List PutChange) × IsPutSoFar dump found changes start (done + 1) more new
    × HasPut sink now b (written_front dump scope own start more new.count)
HasPut-next dump scope own found changes start done put old new so_far d some time time_is forward reaches_time sink now
    b
    text =
    let one : PutChange =
    record { place = new.count; change = planned found.listing.rows (get_or changes done d) } in (
      put ++ one ∷ [],
      IsPutSoFar-next dump found changes start done put old new so_far d some time time_is forward reaches_time,
      subst (λ (l : List ℕ). HasPut sink now b l)
          (ap (λ (l : List ℕ). l ++ change_text own one.change)
          (written_front-bytes dump scope own start put old.count new.count so_far.to forward)
          ∙ written_front-change dump scope own start put one) text,
    )
