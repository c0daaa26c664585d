-- The opening of a recording, and the recording of one instant more.
use Rattle.std.proofs.Common.{◌≡◌, ◌≢◌, ℕ, zero, suc, ◌+◌, ◌<◌, ◌≤◌, Bool, true, false, cond, List, [], ◌∷◌, ◌++◌}
use Rattle.std.proofs.Common.{length, get_or, refl, sym, ap, ◌∙◌, subst, arith, inl, inr, Option, Some, None, Result}
use Rattle.std.proofs.Common.{Ok, Err}
use Rattle.std.specs.Prelude.{nat_lt, replicate, slice_get}
use Rattle.std.proofs.lemmas.Bool.{cases_lt, cases_eq}
use Rattle.std.proofs.lemmas.List.{length-replicate}
use Rattle.std.proofs.lemmas.Option.{unwrap_or-slice_get}
use Rattle.vme_trace.specs.Instants.{those, greatest}
use Rattle.vme_trace.specs.Levels.{Levels, level_at, set_level}
use Rattle.vme_trace.specs.LineNumbers.{line_count}
use Rattle.vme_trace.specs.Followed.{with_steps}
use Rattle.vme_trace.specs.Trace.{Trace}
use Rattle.vme_trace.specs.WellFormed.{malformed_step, capture_limit}
use Rattle.vme_trace.specs.declared.level.Level.{Level}
use Rattle.vme_trace.specs.declared.level.Level.TheVariants.{Unknown}
use Rattle.vme_trace.specs.declared.step.Step.{Step}
use Rattle.vcd_read.specs.declared.dump.Instant.{Instant}
use Rattle.vcd_read.specs.Contents.{Contents, TimesAscend}
use Rattle.vcd_read.specs.Header.{◌>>=◌}
use Rattle.vcd_read.proofs.ListLemmas.{get_or-replicate_same}
use Rattle.vme_bind.specs.declared.fault.BindFault.{BindFault}
use Rattle.vme_bind.specs.declared.fault.BindFaultKind.TheVariants.{TooManySteps}
use Rattle.vme_bind.specs.declared.net_lines.NetLines.{NetLines}
use Rattle.vme_bind.specs.declared.bound_groups.BoundGroup.{BoundGroup}
use Rattle.vme_bind.specs.declared.bound_groups.LineSource.{LineSource}
use Rattle.vme_bind.specs.declared.bound_groups.LineSource.TheVariants.{Always, Bit}
use Rattle.vme_bind.specs.Answers.{BindGives}
use Rattle.vme_bind.specs.Binding.{BoundLines}
use Rattle.vme_bind.specs.BoundGroups.{bound_groups_in, line_source}
use Rattle.vme_bind.specs.NetLines.{line_bits_of}
use Rattle.vme_bind.specs.Capture.{values_of, time_of, level_by, level_after, levels_after, recording, recording_of}
use Rattle.vme_bind.specs.Capture.{limited, capture_of}
use Rattle.vme_bind.specs.Recording.{RecorderLevels, AreLines, valued, step_between}
use Rattle.vme_bind.proofs.RecorderLemmas.{level_at-set_same, level_at-set_other, length-set_level, same_levels}
use Rattle.vme_bind.proofs.CaptureLemmas.{AreLineBits, level_at-levels_after, length-levels_after, slots-levels_after}
use Rattle.vme_bind.proofs.CaptureLemmas.{valued-levels_after}
use Rattle.vme_bind.proofs.StepsLemmas.{steps-next_instant, malformed_step-recording}
use Rattle.vme_bind.proofs.LineBitLemmas.{AreLines-line_bits}

-- ---- the opening

-- the level of a line with this source before any change
abbrev pub first_level : Option LineSource → Level
first_level None = Unknown
first_level (Some (Always level)) = level
first_level (Some (Bit bit)) = Unknown

-- the lines below n have their levels before any change, and the others are unknown
pub record IsOpened (slots : ℕ) (bound_groups : List BoundGroup) (n : ℕ) (v : Levels) : Type 0 where
  pub same_slots : v.slots ≡ slots
  pub all : length v.levels ≡ line_count
  pub below : (l : ℕ) → l < n → level_at v l ≡ first_level (line_source slots bound_groups l)
  pub above : (l : ℕ) → n ≤ l → level_at v l ≡ Unknown

-- levels that are all unknown are opened up to line 0
pub IsOpened-first : (bound_groups : List BoundGroup) (v : Levels) → v.levels ≡ replicate line_count Unknown
    → IsOpened v.slots bound_groups 0 v
IsOpened-first bound_groups v e = record {
  same_slots = refl;
  all = ap length e ∙ length-replicate line_count Unknown;
  below = λ l lt. absurd (omega (arith, lt));
  above = λ l le. unwrap_or-slice_get v.levels l Unknown ∙ ap (λ (xs : List Level). get_or xs l Unknown) e
      ∙ get_or-replicate_same line_count Unknown l;
}

-- if the lines below n have their levels before any change, so do those below n + 1, where the line n is unknown then
pub IsOpened-same : (slots : ℕ) (bound_groups : List BoundGroup) (n : ℕ) (v : Levels) → Unknown
    ≡ first_level (line_source slots bound_groups n) → IsOpened slots bound_groups n v → IsOpened slots bound_groups
    (n + 1) v
IsOpened-same slots bound_groups n v e h = record {
  same_slots = h.same_slots;
  all = h.all;
  below = λ l lt. elim (cases_lt l n) [
    | inl less ↦ h.below l less
    | inr more ↦ let is : n ≡ l = omega (arith, lt, more) in
        h.above l more ∙ e ∙ ap (λ (k : ℕ). first_level (line_source slots bound_groups k)) is
  ];
  above = λ l le. h.above l (omega (arith, le));
}

-- if the lines below n have their levels before any change, so do those below n + 1 once the line n gets its own
pub IsOpened-set : (slots : ℕ) (bound_groups : List BoundGroup) (n : ℕ) (v : Levels) (x : Level) → n < line_count → x
    ≡ first_level (line_source slots bound_groups n) → IsOpened slots bound_groups n v → IsOpened slots bound_groups
    (n + 1) (set_level v n x)
IsOpened-set slots bound_groups n v x in' e h = record {
  same_slots = h.same_slots;
  all = length-set_level v n x h.all;
  below = λ l lt. elim (cases_eq l n) [
    | inl is ↦ ap (level_at (set_level v n x)) is ∙ level_at-set_same v n x (omega (arith, in', h.all)) ∙ e
        ∙ ap (λ (k : ℕ). first_level (line_source slots bound_groups k)) (sym is)
    | inr ne ↦ level_at-set_other v n l x ne ∙ h.below l (omega (arith, lt, ne))
  ];
  above = λ l le. let ne : l ≢ n = omega (arith, le) in level_at-set_other v n l x ne ∙ h.above l (omega (arith, le));
}

-- the level before any change is that after 0 instants, by the source of the line
first_level-level_by : (slots : ℕ) (bound_groups : List BoundGroup) (instants : List Instant) (l : ℕ)
    (source : Option LineSource)
    → first_level source ≡ level_by slots bound_groups instants 0 l source
unfolding greatest
first_level-level_by slots bound_groups instants l None = refl
first_level-level_by slots bound_groups instants l (Some (Always level)) = refl
first_level-level_by slots bound_groups instants l (Some (Bit bit)) = refl

-- the level before any change is that after 0 instants
first_level-level_after : (slots : ℕ) (bound_groups : List BoundGroup) (instants : List Instant) (l : ℕ)
    → first_level (line_source slots bound_groups l) ≡ level_after slots bound_groups instants 0 l
unfolding level_after
first_level-level_after slots bound_groups instants l = first_level-level_by slots bound_groups instants l
    (line_source slots bound_groups l)

-- once all lines are done, the levels are those before any change
pub IsOpened-all : (slots : ℕ) (bound_groups : List BoundGroup) (n : ℕ) (v : Levels) → n ≡ line_count
    → IsOpened slots bound_groups n v → (instants : List Instant) → v ≡ levels_after slots bound_groups instants 0
IsOpened-all slots bound_groups n v e h instants =
    same_levels v (levels_after slots bound_groups instants 0)
    (h.same_slots ∙ sym (slots-levels_after slots bound_groups instants 0)) h.all
    (length-levels_after slots bound_groups instants 0)
    (λ l lt. h.below l (omega (arith, lt, e)) ∙ first_level-level_after slots bound_groups instants l
    ∙ sym (level_at-levels_after slots bound_groups instants 0 l lt))

-- ---- one instant more

-- an element x that was read at an index within the list is at that index
slice_get-from_get_or : (instants : List Instant) (i : ℕ) (x : Instant) → i < length instants → x ≡ get_or instants i x
    → slice_get instants i ≡ Some x
slice_get-from_get_or [] i x lt e = absurd (omega (arith, lt))
slice_get-from_get_or (y ∷ instants) zero x lt e = ap Some (sym e)
slice_get-from_get_or (y ∷ instants) (suc i) x lt e = slice_get-from_get_or instants i x (omega (arith, lt)) e

module _ (slots : ℕ) (bound_groups : List BoundGroup) (instants : List Instant) where
  -- the recorder's levels after the first n instants: all is shown
  abbrev pub shown_after : ℕ → RecorderLevels
  shown_after n = record {
    shown = levels_after slots bound_groups instants n;
    now = levels_after slots bound_groups
        instants n;
  }

  -- the recorder's levels before the first instant are those of the opening
  pub shown_after-opening : (p : RecorderLevels) (opening : Levels) → opening
      ≡ levels_after slots bound_groups instants 0 → p
      ≡ record { shown = opening; now = opening } → p ≡ shown_after 0
  shown_after-opening p opening e h = h ∙ ap (λ (v : Levels). record { shown = v; now = v }) e

  module _ (line_bits : NetLines) (all : AreLineBits slots bound_groups line_bits) (i : ℕ) (x : Instant)
      (lt : i < length instants) (e : x ≡ get_or instants i x) where
    -- the values of the instant i, x, make the levels after i + 1 instants from those after i
    levels_after-next : valued line_bits x.values (levels_after slots bound_groups instants i) ≡ levels_after slots
        bound_groups instants (i + 1)
    levels_after-next = valued-levels_after slots bound_groups instants line_bits all i x.values
        (sym (ap values_of (slice_get-from_get_or instants i x lt e)))

    -- after the values of the instant i the recorder's levels are those after i + 1 instants
    pub shown_after-next : (p next : RecorderLevels) → p ≡ shown_after i → next
        ≡ record { shown = valued line_bits x.values p.now; now = valued line_bits x.values p.now } → next
        ≡ shown_after (i + 1)
    shown_after-next p next is h =
        h ∙ ap (λ (q : RecorderLevels). record {
          shown = valued line_bits x.values q.now;
          now = valued line_bits
              x.values q.now;
        }) is
        ∙ ap (λ (v : Levels). record { shown = v; now = v }) levels_after-next

    -- the steps of the first i + 1 instants are those of the first i and the step at instant i, if there is one
    pub recording-next_steps : (p : RecorderLevels) (steps more : List Step) → p ≡ shown_after i → steps
        ≡ (recording slots bound_groups instants i).steps → more ≡ step_between x.time p.shown
        (valued line_bits x.values p.now)
        → steps ++ more ≡ (recording slots bound_groups instants (i + 1)).steps
    recording-next_steps p steps more is before h =
        ap (λ (ss : List Step). ss ++ more) before
        ∙ ap (λ (ss : List Step). (recording slots bound_groups instants i).steps ++ ss)
        (h ∙ ap (λ (q : RecorderLevels). step_between x.time q.shown (valued line_bits x.values q.now)) is
        ∙ ap (step_between x.time (levels_after slots bound_groups instants i)) levels_after-next)
        ∙ sym (steps-next_instant slots bound_groups instants i x.time (sym
        (ap time_of (slice_get-from_get_or instants i x lt e))))

  -- all lines of the net's bits are lines of the backplane, also by the levels after i instants
  pub AreLines-after : (line_bits : NetLines) → AreLineBits slots bound_groups line_bits → (i : ℕ) (p : RecorderLevels)
      → p
      ≡ shown_after i → (net : ℕ) → AreLines p.now.slots (line_bits_of line_bits net)
  AreLines-after line_bits all i p is net =
      subst (λ (s : ℕ). AreLines s (line_bits_of line_bits net))
      (sym (ap (λ (q : RecorderLevels). q.now.slots) is ∙ slots-levels_after slots bound_groups instants i))
      (AreLines-line_bits slots bound_groups line_bits all net)

-- ---- the whole recording

-- the capture of a dump, if its groups are found, is the limited recording of all instants
pub capture_of-is : (b : BoundLines) (dump : Contents) → capture_of b dump
    ≡ (bound_groups_in dump.variables b.assignments >>= λ bound_groups. limited
    (recording b.slots bound_groups dump.instants (length dump.instants)))
unfolding capture_of
capture_of-is b dump = refl

-- the recording of a dump, if its groups are found, is that of all instants
pub recording_of-is : (b : BoundLines) (dump : Contents) → recording_of b dump
    ≡ (bound_groups_in dump.variables b.assignments >>= λ bound_groups. Ok (recording b.slots bound_groups dump.instants
    (length dump.instants)))
unfolding recording_of
recording_of-is b dump = refl

-- a recording is its opening and its steps
pub recording-is : (slots : ℕ) (bound_groups : List BoundGroup) (instants : List Instant) (n : ℕ) (opening : Levels)
    (steps : List Step) → opening ≡ levels_after slots bound_groups instants 0 → steps
    ≡ (recording slots bound_groups instants n).steps → recording slots bound_groups instants n
    ≡ record { opening = opening; steps = steps }
unfolding recording
recording-is slots bound_groups instants n opening steps e h =
    ap (λ (v : Levels). with_both v (recording slots bound_groups instants n).steps) (sym e) ∙ ap (with_both opening)
    (sym h)
  where
    with_both : Levels → List Step → Trace
    with_both v ss = record { opening = v; steps = ss }

-- the opening of a recording is the levels before any change
recording-opening : (slots : ℕ) (bound_groups : List BoundGroup) (instants : List Instant) (n : ℕ)
    → (recording slots bound_groups instants n).opening ≡ levels_after slots bound_groups instants 0
unfolding recording
recording-opening slots bound_groups instants n = refl

-- the recording of the first n + 1 instants is that of the first n with the step at instant n, if there is one
pub recording-more : (slots : ℕ) (bound_groups : List BoundGroup) (instants : List Instant) (n time : ℕ) → time
    ≡ time_of (slice_get instants n)
    → with_steps (recording slots bound_groups instants n)
    (step_between time (levels_after slots bound_groups instants n) (levels_after slots bound_groups instants
    (n + 1))) ≡ recording slots bound_groups instants (n + 1)
recording-more slots bound_groups instants n time e =
    sym (recording-is slots bound_groups instants (n + 1) (recording slots bound_groups instants n).opening _
    (recording-opening slots bound_groups instants n) (sym (steps-next_instant slots bound_groups instants n time e)))

-- the recording of no instant has no step
pub recording-no_step : (slots : ℕ) (bound_groups : List BoundGroup) (instants : List Instant) → []
    ≡ (recording slots bound_groups instants 0).steps
unfolding recording those
recording-no_step slots bound_groups instants = refl

-- a recording with the opening and no step is that of no instant
pub recording-first : (slots : ℕ) (bound_groups : List BoundGroup) (instants : List Instant) (t : Trace) → t.opening
    ≡ levels_after slots bound_groups instants 0 → t.steps ≡ [] → t ≡ recording slots bound_groups instants 0
recording-first slots bound_groups instants t e none = sym (recording-is slots bound_groups instants 0 t.opening t.steps
    e (none ∙ recording-no_step slots bound_groups instants))

-- the capture of a dump, whose groups are `bound_groups`, is the limited recording of all its instants
pub capture_of-found : (b : BoundLines) (dump : Contents) (bound_groups : List BoundGroup) (made : Trace)
    → bound_groups_in
    dump.variables b.assignments ≡ Ok bound_groups → recording b.slots bound_groups dump.instants (length dump.instants)
    ≡ made
    → capture_of b dump ≡ limited made
capture_of-found b dump bound_groups made e is =
    capture_of-is b dump ∙ ap (λ (r : Result (List BoundGroup) BindFault). r >>= λ bound_groups. limited
    (recording b.slots bound_groups dump.instants (length dump.instants))) e ∙ ap limited is

-- the recording of instants whose times ascend is well formed
pub recording-formed : (slots : ℕ) (bound_groups : List BoundGroup) (instants : List Instant) (made : Trace)
    → TimesAscend instants → recording slots bound_groups instants (length instants) ≡ made → malformed_step made ≡ None
recording-formed slots bound_groups instants made up is =
    sym (ap malformed_step is) ∙ malformed_step-recording slots bound_groups
    instants (length instants) (omega arith) up

-- if the result `r` and the answer are both the limited recording `t`, the answer gives the result
pub BindGives-limited : (t : Trace) (r answer : Result Trace BindFault) → r ≡ limited t → answer ≡ limited t
    → BindGives (λ (t : Trace). t) r answer
BindGives-limited t r answer e h = subst (λ (r : Result Trace BindFault). BindGives (λ (t : Trace). t) r answer) (sym e)
    (by_test (nat_lt capture_limit (length t.steps)) h)
  where
    limited_by : Bool → Result Trace BindFault
    limited_by b = cond b (Err (record { line = 0; kind = TooManySteps })) (Ok t)

    by_test : (b : Bool) → answer ≡ limited_by b → BindGives (λ (t : Trace). t) (limited_by b) answer
    by_test true h = h
    by_test false h = h
