-- A recording that a binding makes of a dump has times that the dump reaches, and these don't go back.
use Rattle.std.proofs.Common.{◌≡◌, ℕ, zero, suc, ◌+◌, ◌<◌, ◌≤◌, Bool, true, false, cond, eqb, List, [], ◌∷◌, ◌++◌}
use Rattle.std.proofs.Common.{Option, None, Result, Ok, Err, refl, sym, ap, subst, arith, get_or, length}
use Rattle.std.proofs.Common.{◌⊎◌, inl, inr}
use Rattle.std.specs.Prelude.{Contains, map, nat_eq, slice_get, unwrap_or}
use Rattle.std.specs.List.{dedup}
use Rattle.std.proofs.lemmas.Bool.{eq-eqb, or_left, or_right}
use Rattle.std.proofs.lemmas.List.Kept.{Contains-from_dedup}
use Rattle.std.proofs.lemmas.Option.{slice_get_cases}
use Rattle.vcd_read.specs.Contents.{Contents}
use Rattle.vcd_read.specs.declared.dump.Instant.{Instant}
use Rattle.vcd_read.specs.declared.fault.VcdFault.{VcdFault}
use Rattle.vcd_read.specs.Tokens.{Token}
use Rattle.vcd_read.specs.Body.{at_the_end, body_from, context_after_all, first_context, ready}
use Rattle.vcd_read.specs.Meaning.{dump_of, instants_of, times_from}
use Rattle.vcd_places.specs.Places.{item_times, times_of_body}
use Rattle.vcd_places.specs.Times.{IsAscendingFrom, IsReached, is_among}
use Rattle.vcd_places.proofs.TimeLemmas.{IsKnown-times_from, IsAscendingFrom-item_times}
use Rattle.vme_bind.specs.Binding.{BoundLines}
use Rattle.vme_bind.specs.BoundGroups.{bound_groups_in}
use Rattle.vme_bind.specs.Capture.{recording, recording_of, step_at, time_of as instant_time}
use Rattle.vme_skew.specs.Settled.{begins_after, group_start, settled, step_to, steps_before}
use Rattle.vme_skew.proofs.Laws.{first_or_later-cases, MayFollowParts-step}
use Rattle.vme_trace.specs.Trace.{Trace, last_instant, time_at, time_of}
use Rattle.vme_trace.specs.WellFormed.{malformed_step}
use Rattle.vme_trace.specs.declared.step.Step.{Step}
use Rattle.vme_annotation.proofs.SameDumpLemmas.{IsDump, bind-ok, IsDump-dump_of}

-- ---- the steps of a recording

module _ (dump : List ℕ) where
  -- the dump reaches the time of each of the steps
  abbrev pub EachReached : List Step → Type 0
  EachReached [] = Unit {0}
  EachReached (step ∷ steps) = IsReached dump step.time × EachReached steps

  -- steps with reached times, and others after them, have reached times
  EachReached-append : (xs ys : List Step) → EachReached xs → EachReached ys → EachReached (xs ++ ys)
  EachReached-append [] ys first second = second
  EachReached-append (x ∷ xs) ys first second = (first.0, EachReached-append xs ys first.1 second)

  -- steps that a function makes have reached times, if each of them has
  EachReached-map : (f : ℕ → Step) (ns : List ℕ) → ((n : ℕ) → IsReached dump (f n).time) → EachReached (map f ns)
  EachReached-map f [] each = tt
  EachReached-map f (n ∷ ns) each = (each n, EachReached-map f ns each)

  -- a step that is there or not, as `test` says, has a reached time
  EachReached-if : (test : Bool) (step : Step) → IsReached dump step.time → EachReached (cond test (step ∷ []) [])
  EachReached-if true step reached = (reached, tt)
  EachReached-if false step reached = tt

  -- of two lists of steps with reached times, either has them
  EachReached-either : (test : Bool) (xs ys : List Step) → EachReached xs → EachReached ys
      → EachReached (cond test xs ys)
  EachReached-either true xs ys first second = first
  EachReached-either false xs ys first second = second

  -- the time of the step at an index, or 0 if there is none, is reached
  IsReached-step : (steps : List Step) (i : ℕ) → EachReached steps → IsReached dump (time_of (slice_get steps i))
  IsReached-step [] i each = inl refl
  IsReached-step (step ∷ steps) zero each = each.0
  IsReached-step (step ∷ steps) (suc i) each = IsReached-step steps i each.1

  -- the time of an instant of a recording is reached, if that of each step is
  pub IsReached-time_at : (t : Trace) (i : ℕ) → EachReached t.steps → IsReached dump (time_at t i)
  IsReached-time_at t zero each = inl refl
  IsReached-time_at t (suc i) each = IsReached-step t.steps i each

  -- the step to an instant, after deskewing, has a reached time
  EachReached-step_to : (skew : ℕ) (t : Trace) (i : ℕ) → EachReached t.steps → EachReached (step_to skew t i)
  EachReached-step_to skew t i each = EachReached-if _ _ (IsReached-time_at t (group_start skew t i) each)

  -- the steps before an instant, after deskewing, have reached times
  EachReached-steps_before : (skew : ℕ) (t : Trace) (i : ℕ) → EachReached t.steps → EachReached (steps_before skew t i)
  unfolding steps_before
  EachReached-steps_before skew t zero each = tt
  EachReached-steps_before skew t (suc i) each =
      let rest = EachReached-steps_before skew t i each in
      EachReached-either (begins_after skew t (group_start skew t i) i) (steps_before skew t i ++ step_to skew t i)
      (steps_before skew t i)
      (EachReached-append (steps_before skew t i) (step_to skew t i) rest (EachReached-step_to skew t i each)) rest

  -- the steps of the deskewed recording have reached times
  pub EachReached-settled : (skew : ℕ) (t : Trace) → EachReached t.steps → EachReached (settled skew t).steps
  unfolding settled
  EachReached-settled skew t each =
      EachReached-append (steps_before skew t (last_instant t)) (step_to skew t (last_instant t))
      (EachReached-steps_before skew t (last_instant t) each) (EachReached-step_to skew t (last_instant t) each)

  -- ---- the instants of the dump

  -- the dump reaches the time of each of the instants
  abbrev AllReached : List Instant → Type 0
  AllReached instants = (i : ℕ) → IsReached dump (instant_time (slice_get instants i))

  -- the recording that is made, or else the other one
  abbrev trace_in : {E : Type 0} → Trace → Result Trace E → Trace
  trace_in other (Ok t) = t
  trace_in other (Err fault) = other

  -- if the dump reaches the time of each of its instants, the steps of the recording have reached times
  pub EachReached-recording_of : (binding : BoundLines) (contents : Contents) (t : Trace)
      → recording_of binding contents ≡ Ok t
      → AllReached contents.instants → EachReached t.steps
  unfolding recording_of recording step_at
  EachReached-recording_of binding contents t e each =
      let read = bind-ok (bound_groups_in contents.variables binding.assignments) _ t e in
      subst (λ (r : Trace). EachReached r.steps) (ap (trace_in t) read.2) (EachReached-map _ _ each)

-- ---- times that don't go back

-- the time of the next instant of a well-formed recording isn't earlier
pub time_at-next : (t : Trace) → malformed_step t ≡ None → (i : ℕ) → i < length t.steps
    → time_at t i ≤ time_at t (suc i)
time_at-next t formed i lt = elim (slice_get_cases t.steps i).1 [
  | inl here ↦
      let next : time_at t (suc i) ≡ here.0.time = ap time_of here.2 in
      elim (first_or_later-cases i (time_at t i) here.0.time
      (MayFollowParts-step t formed i here.0 here.1 here.2).later) [
        | inl first ↦ let none : time_at t i ≡ 0 = ap (time_at t) first in omega (arith, none)
        | inr later ↦ omega (arith, next, later)
      ]
  | inr past ↦ absurd (omega (arith, past.0, lt))
]

-- the time of a later instant of a well-formed recording isn't earlier
pub time_at-later : (t : Trace) → malformed_step t ≡ None → (i n : ℕ) → i + n ≤ length t.steps
    → time_at t i ≤ time_at t (i + n)
time_at-later t formed i zero le = not_earlier (omega arith)
  where
    -- the time of an instant isn't later than that of the same instant, written with 0 added
    not_earlier : i ≡ i + zero → time_at t i ≤ time_at t (i + zero)
    not_earlier e = subst (λ (k : ℕ). time_at t i ≤ time_at t k) e (omega arith)
time_at-later t formed i (suc n) le =
    let next : suc (i + n) ≡ i + suc n = omega arith in
    subst (λ (k : ℕ). time_at t i ≤ time_at t k) next
    (omega (arith, time_at-later t formed i n (omega (arith, le)), time_at-next t formed (i + n) (omega (arith, le))))

-- ---- the times of a dump's instants

-- a number at an index of a list is among it
is_among-at : (xs : List ℕ) (x k : ℕ) → k < length xs → get_or xs k x ≡ x → is_among x xs ≡ true
is_among-at [] x k lt e = absurd (omega (arith, lt))
is_among-at (y ∷ ys) x zero lt e = or_left (eqb y x) (is_among x ys) (eq-eqb y x e)
is_among-at (y ∷ ys) x (suc k) lt e =
    or_right (eqb y x) (is_among x ys) (is_among-at ys x k (omega (arith, lt)) e)

module _ (dump : List ℕ) where
  -- if the instants that `f` makes at these times have reached times, the one at an index has
  IsReached-map : (f : ℕ → Instant) (ts : List ℕ) → ((t : ℕ) → Contains ts t → IsReached dump (f t).time) → (i : ℕ)
      → IsReached dump (instant_time (slice_get (map f ts) i))
  IsReached-map f [] each i = inl refl
  IsReached-map f (t ∷ ts) each zero = each t (0, omega arith, refl)
  IsReached-map f (t ∷ ts) each (suc i) =
      IsReached-map f ts (λ other there. each other (suc there.0, omega (arith, there.1), there.2)) i

  -- the instants that are read, or else the others
  abbrev instants_read : List Instant → Result (List Instant) VcdFault → List Instant
  instants_read other (Ok instants) = instants
  instants_read other (Err fault) = other

  -- the time of each instant of a dump is reached
  pub IsReached-dump_of : (contents : Contents) → dump_of dump ≡ Ok contents → (i : ℕ)
      → IsReached dump (instant_time (slice_get contents.instants i))
  IsReached-dump_of contents e i =
      let is : IsDump dump contents = IsDump-dump_of dump contents e in
      let items = body_from ready is.body in
      let read = bind-ok (context_after_all is.declared.nets first_context items) _ contents.instants is.comes in
      let ended = bind-ok (at_the_end read.0) _ contents.instants read.2 in
      let made : instants_of is.declared.nets items ≡ contents.instants = ap (instants_read []) ended.2 in
      let times_are : times_of_body dump ≡ item_times items =
      ap (λ (o : Option (List Token)). item_times (body_from ready (unwrap_or o []))) is.ends in
      subst (λ (instants : List Instant). IsReached dump (instant_time (slice_get instants i))) made
      (IsReached-map _ (dedup nat_eq (times_from 0 items)) (λ t there.
      let among = Contains-from_dedup nat_eq (times_from 0 items) t there in
      subst (λ (times : List ℕ). (t ≡ 0) ⊎ (is_among t times ≡ true)) (sym times_are)
      (IsKnown-times_from is.declared.nets items first_context read.0 0 t read.1
      (is_among-at (times_from 0 items) t among.0 among.1 among.2))) i)

  -- the time stamps of the body don't go back
  pub IsAscendingFrom-dump_of : (contents : Contents) → dump_of dump ≡ Ok contents
      → IsAscendingFrom 0 (times_of_body dump)
  IsAscendingFrom-dump_of contents e =
      let is : IsDump dump contents = IsDump-dump_of dump contents e in
      let items = body_from ready is.body in
      let read = bind-ok (context_after_all is.declared.nets first_context items) _ contents.instants is.comes in
      let times_are : times_of_body dump ≡ item_times items =
      ap (λ (o : Option (List Token)). item_times (body_from ready (unwrap_or o []))) is.ends in
      subst (λ (times : List ℕ). IsAscendingFrom 0 times) (sym times_are)
      (IsAscendingFrom-item_times is.declared.nets items first_context read.0 read.1)
