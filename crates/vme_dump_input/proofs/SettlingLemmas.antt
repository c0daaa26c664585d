-- The steps that come out as a settler takes several steps, one after the other: with them, what came out is the
-- settled recording as far as it is complete.
use Rattle.std.proofs.Common.{◌≡◌, ℕ, ◌+◌, ◌<◌, ◌≤◌, Bool, true, ◌&&◌, List, [], ◌∷◌, ◌++◌, Option, None, Some}
use Rattle.std.proofs.Common.{length, get_or, take, sym, ap, subst, ◌∙◌, append_assoc, append-nil, refl, max, arith}
use Rattle.std.specs.Prelude.{All, IfOk, OnOk, Result, Ok, Err, nat_le}
use Rattle.std.specs.Option.{option_to_list}
use Rattle.std.proofs.Math.Bool.{and-true, and_assoc}
use Rattle.std.proofs.Math.Nat.{max-eq_right}
use Rattle.std.proofs.lemmas.Bool.{and_from, le-leb, ltb-true}
use Rattle.std.proofs.lemmas.Bool.Decides.{nat_tests}
use Rattle.std.proofs.lemmas.List.{take_more}
use Rattle.std.proofs.lemmas.List.Elements.{All-head, All-tail, All-weaker}
use Rattle.vme_trace.specs.Followed.{with_steps}
use Rattle.vme_trace.specs.Levels.{Levels}
use Rattle.vme_trace.specs.Trace.{Trace, changed}
use Rattle.vme_trace.specs.WellFormed.{malformed_step}
use Rattle.vme_trace.specs.declared.step.Step.{Step}
use Rattle.vme_summary.proofs.Sound.{MayComeAfter, SoundParts-of_well_formed, MayComeAfter-of_well_formed}
use Rattle.vme_skew.specs.Settled.{settled, settled_until}
use Rattle.vme_skew.specs.Settling.{IsSettledSoFar, Settling, taken}
use Rattle.vme_dump_input.specs.SettledReadings.{settled_so_far, settled_whole}
use Rattle.vme_dump_input.specs.SettledSteps.{ComesOut, GoOnFrom, GoOnTo, IsSettledTo, all_taken, are_in_order}
use Rattle.vme_dump_input.specs.SettledSteps.{reached_at, settled_to}

-- the latest time after one step more is that step's, or the one before it, whichever is later
reached_at-append : (reached : ℕ) (steps : List Step) (step : Step)
    → max (reached_at reached steps) step.time ≡ reached_at reached (steps ++ step ∷ [])
unfolding reached_at
reached_at-append reached [] step = refl
reached_at-append reached (x ∷ xs) step = reached_at-append (max reached x.time) xs step

-- to take no steps changes nothing of what is settled
pub all_taken-none : (s : Settling) → s ≡ all_taken s [] []
unfolding reached_at are_in_order
all_taken-none s =
    ap (λ (l : List Step). record s { given = record s.given { steps = l } }) (sym (append-nil s.given.steps))
    ∙ ap (λ (l : List Step). record s { given = with_steps s.given []; out = l }) (sym (append-nil s.out))
    ∙ ap (λ (b : Bool). record s { given = with_steps s.given []; out = s.out ++ []; in_order = b })
    (sym (and-true s.in_order))

-- steps with one more are in order if they are, and the one more isn't earlier than the latest time
are_in_order-append : (reached : ℕ) (steps : List Step) (step : Step)
    → (are_in_order reached steps && nat_le (reached_at reached steps) step.time)
    ≡ are_in_order reached (steps ++ step ∷ [])
unfolding reached_at are_in_order
are_in_order-append reached [] step = sym (and-true (nat_le reached step.time))
are_in_order-append reached (x ∷ xs) step =
    and_assoc (nat_le reached x.time) (are_in_order (max reached x.time) xs)
    (nat_le (reached_at (max reached x.time) xs) step.time)
    ∙ ap (λ (b : Bool). nat_le reached x.time && b) (are_in_order-append (max reached x.time) xs step)

-- to take steps, and then one more, is to take all of them
all_taken-append : (first now : Settling) (steps out : List Step) (step : Step) (made : Option Step)
    → now ≡ all_taken first steps out
    → taken now step made ≡ all_taken first (steps ++ step ∷ []) (out ++ option_to_list made)
all_taken-append first now steps out step made is =
    ap (λ (s : Settling). taken s step made) is
    ∙ ap (λ (l : List Step). record (taken (all_taken first steps out) step made) {
      given = record first.given { steps = l };
    }) (append_assoc first.given.steps steps (step ∷ []))
    ∙ ap (λ (l : List Step). record (taken (all_taken first steps out) step made) {
      given = with_steps first.given (steps ++ step ∷ []);
      out = l;
    }) (append_assoc first.out out (option_to_list made))
    ∙ ap (λ (n : ℕ). record (taken (all_taken first steps out) step made) {
      given = with_steps first.given (steps ++ step ∷ []);
      out = first.out ++ (out ++ option_to_list made);
      reached = n;
    }) (reached_at-append first.reached steps step)
    ∙ ap (λ (b : Bool). record (all_taken first (steps ++ step ∷ []) (out ++ option_to_list made)) { in_order = b })
    (and_assoc first.in_order (are_in_order first.reached steps) (nat_le (reached_at first.reached steps) step.time)
    ∙ ap (λ (b : Bool). first.in_order && b) (are_in_order-append first.reached steps step))

-- taking step i after the first i steps is taking the first i + 1
pub all_taken-next : (first now later : Settling) (steps out outs : List Step) (i : ℕ) (step : Step)
    (made : Option Step)
    → now ≡ all_taken first (take i steps) out → later ≡ taken now step made → outs ≡ out ++ option_to_list made
    → i < length steps → step ≡ get_or steps i step → later ≡ all_taken first (take (i + 1) steps) outs
all_taken-next first now later steps out outs i step made is next grown lt at =
    next ∙ all_taken-append first now (take i steps) out step made is
    ∙ ap (λ (l : List Step). all_taken first l (out ++ option_to_list made))
    (ap (λ (d : Step). take i steps ++ d ∷ []) at ∙ sym (take_more steps i step lt))
    ∙ ap (λ (l : List Step). all_taken first (take (i + 1) steps) l) (sym grown)

-- ---- steps in order

-- steps that may follow one another are in order
are_in_order-after : (reached now : ℕ) (v : Levels) (steps : List Step) → reached ≤ now
    → MayComeAfter v (Some now) steps
    → are_in_order reached steps ≡ true
unfolding are_in_order
are_in_order-after reached now v [] le m = refl
are_in_order-after reached now v (x ∷ xs) le m =
    let late : now ≤ x.time = omega (arith, ltb-true now x.time m.0) in
    let here : reached ≤ x.time = omega (arith, le, late) in
    and_from (nat_le reached x.time) (are_in_order (max reached x.time) xs) (le-leb reached x.time here)
    (are_in_order-after (max reached x.time) x.time (changed v x.changes) xs (omega (arith, max-eq_right here))
    m.2)

-- steps that may follow one another, none earlier than the time that is reached, are in order
are_in_order-first : (reached : ℕ) (v : Levels) (steps : List Step) → All (λ (step : Step). reached ≤ step.time) steps
    → MayComeAfter v None steps → are_in_order reached steps ≡ true
unfolding are_in_order
are_in_order-first reached v [] late m = refl
are_in_order-first reached v (x ∷ xs) late m =
    let here : reached ≤ x.time = All-head (λ (step : Step). reached ≤ step.time) x xs late in
    and_from (nat_le reached x.time) (are_in_order (max reached x.time) xs) (le-leb reached x.time here)
    (are_in_order-after (max reached x.time) x.time (changed v x.changes) xs (omega (arith, max-eq_right here))
    m.2)

-- the latest time is at most `time` after steps that aren't later
reached_at-within : (reached time : ℕ) (steps : List Step) → reached ≤ time
    → All (λ (step : Step). step.time ≤ time) steps → reached_at reached steps ≤ time
unfolding reached_at
reached_at-within reached time [] le within = le
reached_at-within reached time (x ∷ xs) le within =
    let here : x.time ≤ time = All-head (λ (step : Step). step.time ≤ time) x xs within in
    reached_at-within (max reached x.time) time xs (most reached x.time time le here)
    (All-tail (λ (step : Step). step.time ≤ time) x xs within)
  where
    most : (a b c : ℕ) → a ≤ c → b ≤ c → max a b ≤ c
    most a b c le le2 = grind (arith, nat_tests)

-- ---- what comes out

-- a recording with the steps `out` after it is `u`, if it has the opening of `u` and with `out` its steps
with_steps-equal : (t u : Trace) (out : List Step) → t.opening ≡ u.opening → t.steps ++ out ≡ u.steps → with_steps t out
    ≡ u
with_steps-equal t u out opening steps =
    ap (λ (v : Levels). record { opening = v; steps = t.steps ++ out }) opening
    ∙ ap (λ (l : List Step). record { opening = u.opening; steps = l }) steps

module _ (skew : ℕ) (s : Settling) (given t : Trace) (from : ℕ) (h : IsSettledTo skew s given from t)
    (steps : List Step) where
  -- steps that may follow the recording that was given are in order
  are_in_order-GoOnFrom : GoOnFrom given from steps → (s.in_order && are_in_order s.reached steps) ≡ true
  are_in_order-GoOnFrom go =
      and_from s.in_order (are_in_order s.reached steps) h.in_order
      (are_in_order-first s.reached _ steps
      (All-weaker (λ (step : Step). from ≤ step.time) (λ (step : Step). s.reached ≤ step.time)
      (λ step late. omega (arith, late, h.known)) steps go.follows)
      (MayComeAfter-of_well_formed _ steps
      (SoundParts-of_well_formed given.opening given.steps steps go.formed).second))

  -- what came out has the opening of the recording that was given
  opening-IsSettledTo : t.opening ≡ given.opening
  unfolding settled_until settled
  opening-IsSettledTo = ap (λ (x : Trace). x.opening) h.settled

  -- the settler was given the same recording, also with the steps
  given-with_steps : with_steps s.given steps ≡ with_steps given steps
  given-with_steps = ap (λ (x : Trace). with_steps x steps) h.took

  -- where a time is reached
  module _ (next : Settling) (time : ℕ) (out : List Step) (go : GoOnTo given from steps time)
      (is : next ≡ settled_to s steps time out) (so_far : IsSettledSoFar next) where
    -- the latest time is that which is reached
    reached-settled_to : next.reached ≡ time
    reached-settled_to =
        ap (λ (x : Settling). x.reached) is
        ∙ max-eq_right
        (reached_at-within s.reached time steps (omega (arith, h.known, go.on)) go.within)

    -- the settler was given the recording with the steps
    given-settled_to : next.given ≡ with_steps given steps
    given-settled_to = ap (λ (x : Settling). x.given) is ∙ given-with_steps

    -- all steps came in order
    in_order-settled_to : next.in_order ≡ true
    in_order-settled_to = ap (λ (x : Settling). x.in_order) is ∙ are_in_order-GoOnFrom go.go

    -- the settler has the same skew
    skew-settled_to : next.skew ≡ skew
    skew-settled_to = ap (λ (x : Settling). x.skew) is ∙ h.by

    -- the steps that came out, with those that come now
    out-settled_to : next.out ≡ t.steps ++ out
    out-settled_to = ap (λ (x : Settling). x.out) is ∙ ap (λ (l : List Step). l ++ out) h.came

    -- what is complete has the opening of the recording
    opening-settled_until : (settled_until skew time (with_steps given steps)).opening ≡ given.opening
    unfolding settled_until settled
    opening-settled_until = refl

    -- the steps that came out are those of the settled recording that are complete at `time`
    out-complete_steps : next.out ≡ (settled_until skew time (with_steps given steps)).steps
    out-complete_steps =
        so_far (ap malformed_step given-settled_to ∙ go.go.formed) in_order-settled_to
        ∙ ap (λ (n : ℕ). (settled_until n next.reached next.given).steps) skew-settled_to
        ∙ ap (λ (n : ℕ). (settled_until skew n next.given).steps) reached-settled_to
        ∙ ap (λ (x : Trace). (settled_until skew time x).steps) given-settled_to

    -- what came out, with the steps that come now, is the settled recording as far as it is complete at `time`
    pub with_steps-settled_until : with_steps t out ≡ settled_until skew time (with_steps given steps)
    with_steps-settled_until =
        with_steps-equal t (settled_until skew time (with_steps given steps)) out
        (opening-IsSettledTo ∙ sym opening-settled_until)
        (sym out-settled_to ∙ out-complete_steps)

    -- after the steps and the time `IsSettledTo` holds again
    pub IsSettledTo-next : IsSettledTo skew next (with_steps given steps) time (with_steps t out)
    IsSettledTo-next = record {
      by = skew-settled_to;
      took = given-settled_to;
      in_order = in_order-settled_to;
      known = omega (arith, reached-settled_to);
      settled = with_steps-settled_until
          ∙ ap (λ (n : ℕ). settled_until skew n (with_steps given steps)) (sym reached-settled_to);
      came = out-settled_to;
    }

  -- where the recording ends
  module _ (out : List Step) (go : GoOnFrom given from steps)
      (ends : malformed_step (with_steps s.given steps) ≡ None
      → (s.in_order && are_in_order s.reached steps) ≡ true
      → s.out ++ out ≡ (settled s.skew (with_steps s.given steps)).steps) where
    -- the settled recording has the opening of the recording
    opening-settled : (settled skew (with_steps given steps)).opening ≡ given.opening
    unfolding settled
    opening-settled = refl

    -- what came out, with the steps that come at the end, is the settled recording
    pub with_steps-settled : with_steps t out ≡ settled skew (with_steps given steps)
    with_steps-settled =
        with_steps-equal t (settled skew (with_steps given steps)) out (opening-IsSettledTo ∙ sym opening-settled)
        (ap (λ (l : List Step). l ++ out) (sym h.came)
        ∙ ends (ap malformed_step given-with_steps ∙ go.formed) (are_in_order-GoOnFrom go)
        ∙ ap (λ (n : ℕ). (settled n (with_steps s.given steps)).steps) h.by
        ∙ ap (λ (x : Trace). (settled skew x).steps) given-with_steps)

-- ---- a settler, or none

module _ (skew : Option ℕ) (settler : Option Settling) (s : Settling)
    (is : settler ≡ Some s) (given t : Trace) (from : ℕ) (steps : List Step)
    (comes : ComesOut skew settler given from t) where
  -- where there is a settler, there is a skew, and what came out is settled by it
  IsSettledTo-ComesOut : (skew : Option ℕ) → ComesOut skew (Some s) given from t
      → (k : ℕ) × (skew ≡ Some k) × IsSettledTo k s given from t
  IsSettledTo-ComesOut None h = absurd h
  IsSettledTo-ComesOut (Some k) h = (k, refl, h)

  -- the skew of this settler, by which what came out is settled
  skew-of_settler : (k : ℕ) × (skew ≡ Some k) × IsSettledTo k s given from t
  skew-of_settler = IsSettledTo-ComesOut skew (subst (λ (o : Option Settling). ComesOut skew o given from t) is comes)

  -- if the settler returns steps, `ComesOut` holds again
  pub ComesOut-steps : {V E : Type 0} (items : V → List Step) (next : Settling) (time : ℕ) (result : Result V E)
      → GoOnTo given from steps time
      → IfOk result (λ made. next ≡ settled_to s steps time (items made)) → OnOk result (IsSettledSoFar next)
      → IfOk result (λ made. ComesOut skew (Some next) (with_steps given steps) time (with_steps t (items made)))
  ComesOut-steps items next time (Err e) go made so_far = tt
  ComesOut-steps items next time (Ok v) go made so_far =
      let (k, same, h) = skew-of_settler in
      subst (λ (o : Option ℕ). ComesOut o (Some next) (with_steps given steps) time (with_steps t (items v))) (sym same)
      (IsSettledTo-next k s given t from h steps next time (items v) go made so_far)

  -- if the settler returns steps, what came out is then the settled recording as far as it is complete at `time`
  pub settled_so_far-steps : {V E : Type 0} (items : V → List Step) (next : Settling) (time : ℕ) (result : Result V E)
      → GoOnTo given from steps time
      → IfOk result (λ made. next ≡ settled_to s steps time (items made)) → OnOk result (IsSettledSoFar next)
      → IfOk result (λ made. with_steps t (items made) ≡ settled_so_far skew time (with_steps given steps))
  settled_so_far-steps items next time (Err e) go made so_far = tt
  settled_so_far-steps items next time (Ok v) go made so_far =
      let (k, same, h) = skew-of_settler in
      with_steps-settled_until k s given t from h steps next time (items v) go made so_far
      ∙ ap (λ (o : Option ℕ). settled_so_far o time (with_steps given steps)) (sym same)

  -- if the settler returns steps at the end, what came out is then the whole settled recording
  pub settled_whole-steps : {V E : Type 0} (items : V → List Step) (result : Result V E) → GoOnFrom given from steps
      → IfOk result (λ made. malformed_step (with_steps s.given steps) ≡ None
      → (s.in_order && are_in_order s.reached steps) ≡ true
      → s.out ++ items made ≡ (settled s.skew (with_steps s.given steps)).steps)
      → IfOk result (λ made. with_steps t (items made) ≡ settled_whole skew (with_steps given steps))
  settled_whole-steps items (Err e) go ends = tt
  settled_whole-steps items (Ok v) go ends =
      let (k, same, h) = skew-of_settler in
      with_steps-settled k s given t from h steps (items v) go ends
      ∙ ap (λ (o : Option ℕ). settled_whole o (with_steps given steps)) (sym same)
