-- How far an audit reads a recording, as its steps come.
use Rattle.std.proofs.Common.{◌≡◌, ℕ, zero, suc, ◌+◌, ◌-◌, ◌<◌, ◌≤◌, Bool, true, false, List, [], ◌∷◌, ◌++◌, length}
use Rattle.std.proofs.Common.{drop}
use Rattle.std.proofs.Common.{refl, sym, ◌∙◌, ap, subst, arith, append-nil, append_assoc, length-append}
use Rattle.std.proofs.Common.{All, IfSome, Option, None, Some}
use Rattle.std.proofs.lemmas.List.{take_all, take-append-drop, take-append-le}
use Rattle.std.proofs.lemmas.List.Elements.{All-cons, All-filter, All-head, All-nil, All-tail, filter-append}
use Rattle.std.proofs.lemmas.Option.{slice_get_past}
use Rattle.std.specs.Prelude.{nat_lt, slice_get}
use Rattle.std.specs.Option.{option_to_list}
use Rattle.std.proofs.lemmas.Bool.{lt-ltb, ltb-false, ltb-true}
use Rattle.vme_trace.specs.Followed.{with_steps}
use Rattle.vme_trace.specs.Trace.{Trace}
use Rattle.vme_trace.specs.WellFormed.{malformed_step}
use Rattle.vme_trace.specs.declared.step.Step.{Step}
use Rattle.vme_trace.specs.declared.verdict.Break.{Break}
use Rattle.vme_trace.proofs.FollowedLaws.{with_steps-append, with_steps-none}
use Rattle.vme_trace.proofs.ListLaws.{slice_get-append, slice_get-append_past}
use Rattle.vme_audit.specs.Allowances.{cut_at, faults, is_fault, stopped_at}
use Rattle.vme_audit.specs.Parts.{breaks, cut_after}
use Rattle.vme_audit.specs.declared.allowance.Allowance.{Allowance}
use Rattle.vme_summary.proofs.Sound.{SoundParts-of_well_formed}
use Rattle.vme_auditor.specs.Growth.{StepBreaks}
use Rattle.vme_step_auditor.specs.ReadBy.{BreaksGoOn, is_stopped, read_by}

-- each step of a well-formed recording breaks at most one rule, at its own instant
abbrev pub EachStepBreaks : Type 0
EachStepBreaks = (t : Trace) (s : Step) → malformed_step (with_steps t (s ∷ [])) ≡ None → t.opening.slots ≤ 21
    → StepBreaks t s

-- no break is after the last step
abbrev pub BreaksWithin : Type 0
BreaksWithin = (t : Trace) → malformed_step t ≡ None → t.opening.slots ≤ 21
    → All (λ (b : Break). b.instant ≤ length t.steps) (breaks t)

-- a recording cut at or after its end is the whole one
cut_after-whole : (t : Trace) (j : ℕ) → length t.steps ≤ j → cut_after t j ≡ t
cut_after-whole t j le = ap (λ (x : List Step). record { opening = t.opening; steps = x }) (take_all j t.steps le)

-- a recording is well formed if it is with further steps
pub well_formed-front : (t : Trace) (steps : List Step) → malformed_step (with_steps t steps) ≡ None → malformed_step t
    ≡ None
well_formed-front t steps ok = (SoundParts-of_well_formed t.opening t.steps steps ok).first

-- the breaks of the recording with these further steps are those of the recording, and then `more`
pub record BreaksGrow (t : Trace) (steps : List Step) : Type 0 where
  pub more : List Break
  pub grown : breaks (with_steps t steps) ≡ breaks t ++ more

-- further steps only add breaks
pub BreaksGrow-steps : EachStepBreaks → (steps : List Step) (t : Trace) → malformed_step (with_steps t steps) ≡ None
    → t.opening.slots ≤ 21 → BreaksGrow t steps
BreaksGrow-steps grow [] t ok few =
    record { more = []; grown = ap (λ (t : Trace). breaks t) (with_steps-none t) ∙ sym (append-nil (breaks t)) }
BreaksGrow-steps grow (s ∷ steps) t ok few =
    let next = with_steps t (s ∷ []) in
    let sound : malformed_step (with_steps next steps) ≡ None =
    subst (λ (t : Trace). malformed_step t ≡ None) (sym (with_steps-append t (s ∷ []) steps)) ok in
    let first = grow t s (well_formed-front next steps sound) few in
    let rest = BreaksGrow-steps grow steps next sound few in
    record {
      more = option_to_list first.found ++ rest.more;
      grown =
          ap (λ (t : Trace). breaks t) (sym (with_steps-append t (s ∷ []) steps)) ∙ rest.grown
          ∙ ap (λ (bs : List Break). bs ++ rest.more) first.grown
          ∙ append_assoc (breaks t) (option_to_list first.found) rest.more;
    }

module _ (allowances : List Allowance) where
  -- until an audit stops, everything is read
  pub read_by-unstopped : (stop : Option ℕ) (t : Trace) → is_stopped allowances stop t ≡ false
      → read_by allowances stop t ≡ t
  unfolding stopped_at
  read_by-unstopped None t h = refl
  read_by-unstopped (Some n) t h =
      ap (cut_at allowances t)
      (slice_get_past (faults allowances (breaks t)) (n - 1)
      (ltb-false (n - 1) (length (faults allowances (breaks t))) h))

  -- cut at breaks that are at its last instant, a recording is whole
  cut_at-last : (t : Trace) (bs : List Break) (i : ℕ) → All (λ (b : Break). b.instant ≡ length t.steps) bs
      → cut_at allowances t (slice_get bs i) ≡ t
  cut_at-last t [] i own = refl
  cut_at-last t (b ∷ bs) zero own =
      let at = All-head (λ (b : Break). b.instant ≡ length t.steps) b bs own in cut_after-whole t b.instant
      (omega arith)
  cut_at-last t (b ∷ bs) (suc i) own =
      cut_at-last t bs i (All-tail (λ (b : Break). b.instant ≡ length t.steps) b bs own)

  -- cut at one of some breaks that aren't after the end of `t`, `t` with further steps is `t` cut there
  cut_at-before : (t : Trace) (steps : List Step) (bs : List Break) (i : ℕ)
      → All (λ (b : Break). b.instant ≤ length t.steps) bs → i < length bs
      → cut_at allowances (with_steps t steps) (slice_get bs i) ≡ cut_at allowances t (slice_get bs i)
  cut_at-before t steps [] i within h = absurd (omega arith)
  cut_at-before t steps (b ∷ bs) zero within h =
      ap (λ (x : List Step). record { opening = t.opening; steps = x })
      (take-append-le b.instant t.steps steps (All-head (λ (b : Break). b.instant ≤ length t.steps) b bs within))
  cut_at-before t steps (b ∷ bs) (suc i) within h =
      cut_at-before t steps bs i (All-tail (λ (b : Break). b.instant ≤ length t.steps) b bs within) (omega arith)

  -- the break of a step, if it has one, is at the last instant
  All-own_break : (n m : ℕ) (found : Option Break) → n + 1 ≡ m → IfSome found (λ b. b.instant ≡ n + 1)
      → All (λ (b : Break). b.instant ≡ m) (option_to_list found)
  All-own_break n m None e own = All-nil (λ (b : Break). b.instant ≡ m)
  All-own_break n m (Some b) e own =
      All-cons (λ (b : Break). b.instant ≡ m) b [] (own ∙ e) (All-nil (λ (b : Break). b.instant ≡ m))

  -- until an audit stops, and at the step at which it stops, everything is read
  pub read_by-step : (stop : Option ℕ) (t : Trace) (s : Step) → StepBreaks t s → is_stopped allowances stop t ≡ false
      → read_by allowances stop (with_steps t (s ∷ [])) ≡ with_steps t (s ∷ [])
  unfolding stopped_at
  read_by-step None t s step h = refl
  read_by-step (Some n) t s step h =
      let next = with_steps t (s ∷ []) in
      let so_far = faults allowances (breaks t) in
      let own = faults allowances (option_to_list step.found) in
      let few : length so_far ≤ n - 1 = ltb-false (n - 1) (length so_far) h in
      let at : n - 1 ≡ length so_far + (n - 1 - length so_far) = omega arith in
      let last : length t.steps + 1 ≡ length next.steps = sym (length-append t.steps (s ∷ [])) in
      ap (λ (bs : List Break). cut_at allowances next (slice_get (faults allowances bs) (n - 1))) step.grown
      ∙ ap (λ (bs : List Break). cut_at allowances next (slice_get bs (n - 1)))
      (filter-append (is_fault allowances) (breaks t) (option_to_list step.found))
      ∙ ap (λ i. cut_at allowances next (slice_get (so_far ++ own) i)) at
      ∙ ap (cut_at allowances next) (slice_get-append_past so_far own (n - 1 - length so_far))
      ∙ cut_at-last next own (n - 1 - length so_far)
      (All-filter (is_fault allowances) (λ (b : Break). b.instant ≡ length next.steps) (option_to_list step.found)
      (All-own_break (length t.steps) (length next.steps) step.found last step.own))

  -- the steps after an audit has stopped
  module _ (grow : EachStepBreaks) (within : BreaksWithin) (stop : Option ℕ) (t : Trace) (steps : List Step)
      (ok : malformed_step (with_steps t steps) ≡ None) (few : t.opening.slots ≤ 21)
      (h : is_stopped allowances stop t ≡ true) where
    -- an audit that has stopped stays so when further steps come
    pub is_stopped-stays : is_stopped allowances stop (with_steps t steps) ≡ true
    is_stopped-stays = by_stop stop h
      where
        by_stop : (stop : Option ℕ) → is_stopped allowances stop t ≡ true
            → is_stopped allowances stop (with_steps t steps) ≡ true
        by_stop None h = h
        by_stop (Some n) h =
            let on = BreaksGrow-steps grow steps t ok few in
            let so_far = faults allowances (breaks t) in
            let enough : n - 1 < length so_far = ltb-true (n - 1) (length so_far) h in
            let longer : length (so_far ++ faults allowances on.more)
            ≡ length so_far + length (faults allowances on.more) = length-append so_far (faults allowances on.more) in
            ap (λ (bs : List Break). nat_lt (n - 1) (length (faults allowances bs))) on.grown
            ∙ ap (λ (bs : List Break). nat_lt (n - 1) (length bs))
            (filter-append (is_fault allowances) (breaks t) on.more)
            ∙ lt-ltb (n - 1) (length (so_far ++ faults allowances on.more)) (omega arith)

    -- an audit that has stopped reads nothing of further steps
    pub read_by-stopped : read_by allowances stop (with_steps t steps) ≡ read_by allowances stop t
    unfolding stopped_at
    read_by-stopped = by_stop stop h
      where
        by_stop : (stop : Option ℕ) → is_stopped allowances stop t ≡ true
            → read_by allowances stop (with_steps t steps) ≡ read_by allowances stop t
        by_stop None h = absurd (cc)
        by_stop (Some n) h =
            let on = BreaksGrow-steps grow steps t ok few in
            let so_far = faults allowances (breaks t) in
            let enough : n - 1 < length so_far = ltb-true (n - 1) (length so_far) h in
            ap (λ (bs : List Break). cut_at allowances (with_steps t steps) (slice_get (faults allowances bs) (n - 1)))
            on.grown
            ∙ ap (λ (bs : List Break). cut_at allowances (with_steps t steps) (slice_get bs (n - 1)))
            (filter-append (is_fault allowances) (breaks t) on.more)
            ∙ ap (cut_at allowances (with_steps t steps))
            (slice_get-append so_far (faults allowances on.more) (n - 1) enough)
            ∙ cut_at-before t steps so_far (n - 1)
            (All-filter (is_fault allowances) (λ (b : Break). b.instant ≤ length t.steps) (breaks t)
            (within t (well_formed-front t steps ok) few)) enough

  -- the breaks of what is read stay when further steps come
  pub BreaksGoOn-steps : EachStepBreaks → BreaksWithin → (stop : Option ℕ) (steps : List Step) (t : Trace)
      → malformed_step (with_steps t steps) ≡ None → t.opening.slots ≤ 21
      → BreaksGoOn allowances stop t (with_steps t steps)
  BreaksGoOn-steps grow within stop [] t ok few =
      record {
        more = [];
        grown =
            ap (λ (t : Trace). breaks (read_by allowances stop t)) (with_steps-none t)
            ∙ sym (append-nil (breaks (read_by allowances stop t)));
      }
  BreaksGoOn-steps grow within stop (s ∷ steps) t ok few =
      let next = with_steps t (s ∷ []) in
      let sound : malformed_step (with_steps next steps) ≡ None =
      subst (λ (t : Trace). malformed_step t ≡ None) (sym (with_steps-append t (s ∷ []) steps)) ok in
      by_stopped (BreaksGoOn-steps grow within stop steps next sound few)
      (grow t s (well_formed-front next steps sound) few)
      (is_stopped allowances stop t) refl
    where
      by_stopped : BreaksGoOn allowances stop (with_steps t (s ∷ [])) (with_steps (with_steps t (s ∷ [])) steps)
          → StepBreaks t s → (b : Bool) → is_stopped allowances stop t ≡ b
          → BreaksGoOn allowances stop t (with_steps t (s ∷ steps))
      by_stopped rest first true h =
          record {
            more = [];
            grown =
                ap (λ (t : Trace). breaks t) (read_by-stopped grow within stop t (s ∷ steps) ok few h)
                ∙ sym (append-nil (breaks (read_by allowances stop t)));
          }
      by_stopped rest first false h =
          let next = with_steps t (s ∷ []) in
          let own : breaks (read_by allowances stop next)
          ≡ breaks (read_by allowances stop t) ++ option_to_list first.found =
          ap (λ (t : Trace). breaks t) (read_by-step stop t s first h) ∙ first.grown
          ∙ ap (λ (t : Trace). breaks t ++ option_to_list first.found) (sym (read_by-unstopped stop t h)) in
          record {
            more = option_to_list first.found ++ rest.more;
            grown =
                ap (λ (t : Trace). breaks (read_by allowances stop t)) (sym (with_steps-append t (s ∷ []) steps))
                ∙ rest.grown
                ∙ ap (λ (bs : List Break). bs ++ rest.more) own
                ∙ append_assoc (breaks (read_by allowances stop t)) (option_to_list first.found) rest.more;
          }

  -- as long as there is no break, everything is read
  pub read_by-unbroken : (stop : Option ℕ) (t : Trace) → breaks t ≡ [] → read_by allowances stop t ≡ t
  unfolding stopped_at
  read_by-unbroken None t e = refl
  read_by-unbroken (Some n) t e =
      ap (λ (bs : List Break). cut_at allowances t (slice_get (faults allowances bs) (n - 1))) e

-- a well-formed recording up to an instant is well formed
well_formed-cut : (t : Trace) (j : ℕ) → malformed_step t ≡ None → malformed_step (cut_after t j) ≡ None
well_formed-cut t j ok =
    let whole : malformed_step (with_steps (cut_after t j) (drop j t.steps)) ≡ None =
    subst (λ (x : List Step). malformed_step (record { opening = t.opening; steps = x }) ≡ None)
    (sym (take-append-drop j t.steps)) ok in
    well_formed-front (cut_after t j) (drop j t.steps) whole

-- what is read of a well-formed recording is well formed
pub well_formed-read : (allowances : List Allowance) (stop : Option ℕ) (t : Trace) → malformed_step t ≡ None
    → malformed_step (read_by allowances stop t) ≡ None
unfolding stopped_at
well_formed-read allowances None t ok = ok
well_formed-read allowances (Some n) t ok = by_last (slice_get (faults allowances (breaks t)) (n - 1))
  where
    by_last : (b : Option Break) → malformed_step (cut_at allowances t b) ≡ None
    by_last None = ok
    by_last (Some b) = well_formed-cut t b.instant ok
