-- The rules that an audit has noted as asked, by the events of its steps, are those that the parts of the recording
-- ask.
use Rattle.std.proofs.Common.{◌≡◌, ℕ, zero, suc, ◌+◌, ◌-◌, ◌≤◌, Bool, true, false, ◌||◌, List, [], ◌∷◌, ◌++◌}
use Rattle.std.proofs.Common.{length}
use Rattle.std.proofs.Common.{take, drop, refl, sym, ◌∙◌, ap, subst, arith, add-one, inl, inr, ◌⊎◌, Option, None, Some}
use Rattle.std.proofs.lemmas.List.{length-drop, take-append-drop, take_all}
use Rattle.std.specs.Prelude.{min, slice_get}
use Rattle.std.specs.List.{fold, list_any}
use Rattle.std.specs.Option.{option_map, option_map_or, option_or}
use Rattle.std.proofs.Math.Bool.{or-false, or_assoc}
use Rattle.vme_trace.specs.Instants.{any}
use Rattle.vme_trace.specs.Judged.{Stretch, has_any_stretch, judged_stretches}
use Rattle.vme_trace.specs.Levels.{Levels}
use Rattle.vme_trace.specs.Rules.{all_rules, ends_stretch}
use Rattle.vme_trace.specs.Trace.{Trace, changed, levels_after, levels_at, recorded}
use Rattle.vme_trace.specs.Verdict.{judge, verdict, verdict_by}
use Rattle.vme_trace.specs.WellFormed.{malformed_step}
use Rattle.vme_trace.specs.declared.rule.Rule.{Rule}
use Rattle.vme_trace.specs.declared.rule.Rule.TheVariants as rule
use Rattle.vme_trace.specs.declared.step.Change.{Change}
use Rattle.vme_trace.specs.declared.step.Step.{Step}
use Rattle.vme_trace.specs.declared.verdict.Break.{Break}
use Rattle.vme_trace.proofs.CutBlocks.{levels_at-taken}
use Rattle.vme_monitor.specs.Along.{changes_of, memory_from}
use Rattle.vme_monitor.specs.Ends.{end_among}
use Rattle.vme_monitor.specs.KnownRules.{known_begin}
use Rattle.vme_monitor.specs.Outcome.{BreakWithin, shifted_break}
use Rattle.vme_monitor.specs.OverStretches.{has_started, opening_phase}
use Rattle.vme_monitor.specs.Run.{break_of_fault}
use Rattle.vme_monitor.specs.declared.known.Stateless.{Stateless}
use Rattle.vme_monitor.specs.declared.mark.Fault.{Fault}
use Rattle.vme_monitor.specs.declared.over_stretches.StretchPhase.{StretchPhase}
use Rattle.vme_monitor.proofs.Alongside.{slice_get-below, levels_at-step, IsRunTo-take, take-next}
use Rattle.vme_monitor.proofs.StretchLists.{judged_stretches-started, started_stretches}
use Rattle.vme_dtb.specs.Machine.{dtb_begin}
use Rattle.vme_dtb.specs.declared.memory.HandshakeMemory.{HandshakeMemory}
use Rattle.vme_summary.specs.Runs.{handshake_at, handshake_run, known_at, known_run}
use Rattle.vme_summary.proofs.Sound.{SoundParts-of_well_formed}
use Rattle.vme_audit.specs.AskedRules.{asking_end, asks, asks_in, happens}
use Rattle.vme_audit.specs.Parts.{Part, named_break, own_break, part_after, parts_from}
use Rattle.vme_auditor.specs.Audited.{AuditReached, events_by, with_step, with_stretch}
use Rattle.vme_auditor.specs.Events.{asks_by}
use Rattle.vme_auditor.specs.FirstBreak.{first_break_from}
use Rattle.vme_auditor.specs.Memories.{first_fault_of, memories_at, memories_next}
use Rattle.vme_auditor.specs.declared.asked.AskedEvents.{AskedEvents}
use Rattle.vme_auditor.specs.declared.memories.Memories.{Memories}
use Rattle.vme_auditor.proofs.AskedSteps.{asked_to, happened_by, list_any-later_stretches, HaveHappened-asked_to}
use Rattle.vme_auditor.proofs.AskedSteps.{known_phase, phase_at}
use Rattle.vme_auditor.proofs.AskedSteps.{asks_by-with_stretch, stretch-asked_to}
use Rattle.vme_auditor.proofs.FirstBreaks.{BreakWithin-first_break}
use Rattle.vme_auditor.proofs.ReturnedBreaks.{FindsFirst, levels_at-later_step, memories_after, memories-with_step}
use Rattle.vme_auditor.proofs.ReturnedBreaks.{slots-rest_after, well_formed-rest_after}
use Rattle.vme_auditor.proofs.Truth.{or_fails}

-- the noted events after one more step `s`, by monitors with memories `m`, before a break is looked at
abbrev then_step : Memories → Levels → AskedEvents → Step → AskedEvents
then_step m o e s =
    let after = changed o s.changes in
    events_by e m.handshake (end_among after s.changes) o after s.changes
    (known_at m.known o after s.changes).shown (handshake_at m.handshake o after s.changes).shown

-- the noted events after a step with the fault `f`, if there is one: at a break judging starts anew
abbrev events_unless_break : Option Fault → Levels → AskedEvents → AskedEvents
events_unless_break None after e = e
events_unless_break (Some f) after e = with_stretch e (has_started (memories_at after).known)

-- the events after steps `x`, by monitors that start from memories `m`
unfoldable pub events_from : Memories → Levels → AskedEvents → List Step → AskedEvents
events_from m o e [] = e
events_from m o e (s ∷ x) =
    let after = changed o s.changes in
    let fault = first_fault_of m o after s.changes in
    events_from (memories_after fault after (memories_next m o after s.changes)) after
    (events_unless_break fault after (then_step m o e s)) x

-- the noted events of an audit after one more step are what `events_unless_break` makes of those before it
events-with_step : (r : AuditReached) (s : Step) → (with_step r s).audit.events
    ≡ events_unless_break (first_fault_of r.audit.memories r.levels (changed r.levels s.changes) s.changes)
    (changed r.levels s.changes) (then_step r.audit.memories r.levels r.audit.events s)
events-with_step r s = by_fault (first_fault_of r.audit.memories r.levels (changed r.levels s.changes) s.changes) refl
  where
    by_fault : (f : Option Fault) → first_fault_of r.audit.memories r.levels (changed r.levels s.changes) s.changes ≡ f
        → (with_step r s).audit.events
        ≡ events_unless_break f (changed r.levels s.changes) (then_step r.audit.memories r.levels r.audit.events s)
    by_fault None e = rw e refl
    by_fault (Some f) e = rw e refl

-- the noted events of an audit after the steps `x` are those of the monitors, from its state on
pub events-after_steps : (x : List Step) (r : AuditReached) → (fold with_step r x).audit.events
    ≡ events_from r.audit.memories r.levels r.audit.events x
unfolding events_from
events-after_steps [] r = refl
events-after_steps (s ∷ x) r =
    let after = changed r.levels s.changes in
    let q = with_step r s in
    events-after_steps x q
    ∙ ap (λ (m : Memories). events_from m after q.audit.events x) (memories-with_step r s)
    ∙ ap (λ (e : AskedEvents). events_from (memories_after (first_fault_of r.audit.memories r.levels after s.changes)
    after (memories_next r.audit.memories r.levels after s.changes)) after e x) (events-with_step r s)

-- the noted events after steps `x`, where breaks are ignored
unfoldable pub unbroken_events : Memories → Levels → AskedEvents → List Step → AskedEvents
unbroken_events m o e [] = e
unbroken_events m o e (s ∷ x) =
    let after = changed o s.changes in
    unbroken_events (memories_next m o after s.changes) after (then_step m o e s) x

-- the memories of the monitors after steps `x`, where breaks are ignored
unfoldable pub unbroken_memories : Memories → Levels → List Step → Memories
unbroken_memories m o [] = m
unbroken_memories m o (s ∷ x) =
    let after = changed o s.changes in
    unbroken_memories (memories_next m o after s.changes) after x

-- the noted events after steps `x`, of which `b` is the first break: those up to it, and from there on by monitors that
-- start anew
abbrev events_around_break : Memories → Levels → AskedEvents → List Step → Option Break → AskedEvents
events_around_break m o e x None = unbroken_events m o e x
events_around_break m o e x (Some b) =
    let left = levels_at (recorded o x) b.instant in
    events_from (memories_at left) left
    (with_stretch (unbroken_events m o e (take b.instant x)) (has_started (memories_at left).known)) (drop b.instant x)

-- a step `s` before the steps `x`, from levels `o` with memories `m` and noted events `e`
module _ (m : Memories) (o : Levels) (s : Step) (x : List Step) (e : AskedEvents) where
  -- the levels after `s`
  abbrev after : Levels
  after = changed o s.changes

  -- the memories after `s`, if it is no break
  abbrev next : Memories
  next = memories_next m o after s.changes

  -- the noted events after `s`
  abbrev noted : AskedEvents
  noted = then_step m o e s

  -- the break found in `x` is one instant later if `s` comes before
  events_around_break-shifted : (found : Option Break)
      → events_around_break next after noted x found
      ≡ events_around_break m o e (s ∷ x) (option_map (shifted_break 1) found)
  unfolding unbroken_events
  events_around_break-shifted None = refl
  events_around_break-shifted (Some b) = rw (add-one b.instant, levels_at-later_step o s x b.instant) refl

  -- if the events after `x` are those around the first break of `x`, so are those after `s` and `x`
  events_around_break-step : (f : Option Fault) (time : ℕ) → events_from next after noted x
      ≡ events_around_break next after noted x (first_break_from next after x)
      → events_from (memories_after f after next) after (events_unless_break f after noted) x
      ≡ events_around_break m o e (s ∷ x)
      (option_or (option_map (break_of_fault 1 time) f) (option_map (shifted_break 1) (first_break_from next after x)))
  unfolding levels_at unbroken_events
  events_around_break-step None time so_far = so_far ∙ events_around_break-shifted (first_break_from next after x)
  events_around_break-step (Some f) time so_far = refl

-- the noted events after steps are those around their first break
events_from-first_break : (x : List Step) (m : Memories) (o : Levels) (e : AskedEvents) → events_from m o e x
    ≡ events_around_break m o e x (first_break_from m o x)
unfolding events_from unbroken_events first_break_from
events_from-first_break [] m o e = refl
events_from-first_break (s ∷ x) m o e =
    events_around_break-step m o s x e (first_fault_of m o (changed o s.changes) s.changes) s.time
    (events_from-first_break x (next m o s x e) (after m o s x e) (noted m o s x e))

-- where breaks are ignored, the memory of the monitor of stretches is the one that its run leaves
pub known-unbroken : (x : List Step) (m : Memories) (o : Levels) → (unbroken_memories m o x).known
    ≡ (known_run m.known o x).leaving
unfolding unbroken_memories known_run
known-unbroken [] m o = refl
known-unbroken (s ∷ x) m o = known-unbroken x (memories_next m o (changed o s.changes) s.changes) (changed o s.changes)

-- where breaks are ignored, the memory of the handshake monitor is the one that its run leaves
handshake-unbroken : (x : List Step) (m : Memories) (o : Levels) → (unbroken_memories m o x).handshake
    ≡ (handshake_run m.handshake o x).leaving
unfolding unbroken_memories handshake_run
handshake-unbroken [] m o = refl
handshake-unbroken (s ∷ x) m o =
    handshake-unbroken x (memories_next m o (changed o s.changes) s.changes) (changed o s.changes)

-- the events after `x` and one more step `s` are what `s` makes of those after `x`
unbroken_events-next : (x : List Step) (m : Memories) (o : Levels) (e : AskedEvents) (s : Step)
    → unbroken_events m o e (x ++ s ∷ [])
    ≡ then_step (unbroken_memories m o x) (levels_after o x) (unbroken_events m o e x) s
unfolding unbroken_events unbroken_memories
unbroken_events-next [] m o e s = refl
unbroken_events-next (y ∷ x) m o e s =
    unbroken_events-next x (memories_next m o (changed o y.changes) y.changes) (changed o y.changes) (then_step m o e y)
    s

-- the monitors' memories at an instant
module _ (o : Levels) (x : List Step) where
  -- the recording of the steps `x` after the opening `o`
  abbrev t : Trace
  t = recorded o x

  -- after the first `n` steps the memory of the monitor of stretches is that of instant `n`
  known-at_instant : (n : ℕ) → n ≤ length x → (unbroken_memories (memories_at o) o (take n x)).known
      ≡ memory_from known_at t (opening_phase known_begin o) 0 n
  unfolding known_run
  known-at_instant n h =
      known-unbroken (take n x) (memories_at o) o
      ∙ (IsRunTo-take known_at t (opening_phase known_begin o) n h).leaving

  -- after the first `n` steps the memory of the handshake monitor is that of instant `n`
  handshake-at_instant : (n : ℕ) → n ≤ length x → (unbroken_memories (memories_at o) o (take n x)).handshake
      ≡ memory_from handshake_at t (opening_phase dtb_begin o) 0 n
  unfolding handshake_run
  handshake-at_instant n h =
      handshake-unbroken (take n x) (memories_at o) o
      ∙ (IsRunTo-take handshake_at t (opening_phase dtb_begin o) n h).leaving

  -- the noted events after a step, by the memories of the two monitors
  abbrev events_of_step : AskedEvents → StretchPhase HandshakeMemory → StretchPhase Stateless → Levels → Levels
      → List Change
      → AskedEvents
  events_of_step e h k v w cs =
      events_by e h (end_among w cs) v w cs (known_at k v w cs).shown (handshake_at h v w cs).shown

  module _ (ok : malformed_step t ≡ None) (few : o.slots ≤ 21) where
    -- the events of the first `n` steps are those up to instant `n`
    unbroken_events-asked_to : (e : AskedEvents) (n : ℕ) → n ≤ length x → unbroken_events (memories_at o) o e (take n x)
        ≡ asked_to t ok few e n
    unfolding unbroken_events
    unbroken_events-asked_to e zero h = refl
    unbroken_events-asked_to e (suc n) h =
        let s = slice_get-below x n (omega arith) in
        let so_far = unbroken_events-asked_to e n (omega arith) in
        let memories = unbroken_memories (memories_at o) o (take n x) in
        let before = levels_after o (take n x) in
        let left = sym (levels_at-taken t n) in
        let own : s.0.changes ≡ changes_of (slice_get x n) = rw s.1 refl in
        let ahead : changed (levels_at t n) (changes_of (slice_get x n)) ≡ levels_at t (suc n) =
        sym (levels_at-step t n (omega arith)) in
        ap (unbroken_events (memories_at o) o e) (take-next x n s.0 (omega arith) s.1)
        ∙ unbroken_events-next (take n x) (memories_at o) o e s.0
        ∙ ap (λ (e : AskedEvents). events_of_step e memories.handshake memories.known before
        (changed before s.0.changes)
        s.0.changes) so_far
        ∙ ap (λ (h : StretchPhase HandshakeMemory). events_of_step (asked_to t ok few e n) h memories.known before
        (changed before s.0.changes) s.0.changes) (handshake-at_instant n (omega arith))
        ∙ ap (λ (k : StretchPhase Stateless). events_of_step (asked_to t ok few e n) (phase_at t ok few n) k before
        (changed before s.0.changes) s.0.changes) (known-at_instant n (omega arith))
        ∙ ap (λ (v : Levels). events_of_step (asked_to t ok few e n) (phase_at t ok few n) (known_phase t ok few n) v
        (changed v s.0.changes) s.0.changes) left
        ∙ ap (λ (cs : List Change). events_of_step (asked_to t ok few e n) (phase_at t ok few n)
        (known_phase t ok few n)
        (levels_at t n) (changed (levels_at t n) cs) cs) own
        ∙ ap (λ (w : Levels). events_of_step (asked_to t ok few e n) (phase_at t ok few n) (known_phase t ok few n)
        (levels_at t n) w (changes_of (slice_get x n))) ahead

-- a rule is U1, whose event is the stretch itself, or has another event
is_u1_or_other : (r : Rule) → (r ≡ rule.U1) ⊎ (ends_stretch r ≡ false)
is_u1_or_other rule.U1 = inl refl
is_u1_or_other r = inr refl

-- two tests that agree hold of some element of a list both or neither
list_any-equal : {A : Type 0} (p q : A → Bool) (xs : List A) → ((a : A) → p a ≡ q a) → list_any p xs ≡ list_any q xs
list_any-equal p q [] h = refl
list_any-equal p q (x ∷ xs) h = ap (λ b. b || list_any p xs) (h x) ∙ ap (λ b. q x || b) (list_any-equal p q xs h)

module _ (o : Levels) (x : List Step) (ok : malformed_step (recorded o x) ≡ None) (few : o.slots ≤ 21)
    (found : Option Break) (k : ℕ) (within : k ≤ length x) (asking : asking_end (recorded o x) found ≡ suc k) where
  -- a well-formed recording with the break `found`, up to instant `k`, that of the break, or the last one
  abbrev whole : Trace
  whole = recorded o x

  -- a rule other than U1 is asked exactly if its event happens, up to instant `k`, in a stretch that has started by
  -- then
  list_any-asks_in : (r : Rule) (own : ends_stretch r ≡ false)
      → list_any (asks_in whole found r) (judged_stretches whole)
      ≡ list_any (happened_by whole ok few r own k) (started_stretches whole k)
  unfolding asks_in
  list_any-asks_in r own =
      let far : k + (length x - k) ≡ length x = omega arith in
      list_any-equal (asks_in whole found r) (happened_by whole ok few r own k) (judged_stretches whole)
      (λ stretch. or_fails (ends_stretch r) (any (happens whole stretch r) (stretch.start + 1)
      (min stretch.end (asking_end whole found))) own
      ∙ ap (λ j. any (happens whole stretch r) (stretch.start + 1) (min stretch.end j)) asking)
      ∙ ap (list_any (happened_by whole ok few r own k)) (judged_stretches-started whole
      ∙ ap (started_stretches whole) (sym far))
      ∙ list_any-later_stretches whole ok few r own k (length x - k)

  -- U1 is asked exactly if there is a stretch
  list_any-asks_u1 : (stretches : List Stretch) → list_any (asks_in whole found rule.U1) stretches
      ≡ has_any_stretch stretches
  unfolding asks_in
  list_any-asks_u1 [] = refl
  list_any-asks_u1 (stretch ∷ stretches) = refl

  module _ (e : AskedEvents) (begun : has_started (known_phase whole ok few k)
      ≡ has_any_stretch (judged_stretches whole)) where
    -- the noted events `e`, and whether judging starts at the opening
    abbrev opened : AskedEvents
    opened = with_stretch e (has_started (memories_at o).known)

    -- after the first `k` steps rule `r` is asked exactly if it was asked before, or a judged stretch asks it
    abbrev Asks : Rule → Type 0
    Asks r = asks_by (unbroken_events (memories_at o) o opened (take k x)) r
        ≡ (asks_by e r || list_any (asks_in whole found r) (judged_stretches whole))

    -- `Asks` holds of U1
    Asks-u1 : Asks rule.U1
    Asks-u1 =
        ap (λ (e : AskedEvents). e.stretch) (unbroken_events-asked_to o x ok few opened k within)
        ∙ stretch-asked_to whole ok few e k within
        ∙ ap (λ b. e.stretch || b) (begun ∙ sym (list_any-asks_u1 (judged_stretches whole)))

    -- `Asks` holds of a rule other than U1
    Asks-other : (r : Rule) → ends_stretch r ≡ false → Asks r
    Asks-other r own =
        ap (λ (e : AskedEvents). asks_by e r) (unbroken_events-asked_to o x ok few opened k within)
        ∙ HaveHappened-asked_to whole ok few r own opened k within
        ∙ ap (λ b. b || list_any (happened_by whole ok few r own k) (started_stretches whole k))
        (asks_by-with_stretch r e (has_started (memories_at o).known) own)
        ∙ ap (λ b. asks_by e r || b) (sym (list_any-asks_in r own))

    -- `Asks` holds of every rule
    Asks-every : (r : Rule) → Asks r
    Asks-every r =
        elim (is_u1_or_other r) [
          | inl is_u1 ↦ subst Asks (sym is_u1) Asks-u1
          | inr own ↦ Asks-other r own
        ]

-- the monitors have started at the end of a recording exactly if it has a judged stretch
abbrev pub KnowsStart : Type 0
KnowsStart = (t : Trace) → malformed_step t ≡ None → t.opening.slots ≤ 21
    → has_started (known_run (opening_phase known_begin t.opening) t.opening t.steps).leaving
    ≡ has_any_stretch (judged_stretches t)

-- the verdict of no stretch names no break
has_any_stretch-named : (t : Trace) (stretches : List Stretch) (b : Break) → named_break (judge all_rules t stretches)
    ≡ Some b
    → has_any_stretch stretches ≡ true
has_any_stretch-named t [] b e = absurd (cc)
has_any_stretch-named t (stretch ∷ stretches) b e = refl

-- a recording whose verdict names a break has a judged stretch
has_any_stretch-broken : (t : Trace) (b : Break) → named_break (verdict t) ≡ Some b
    → has_any_stretch (judged_stretches t) ≡ true
unfolding verdict_by
has_any_stretch-broken t b e = has_any_stretch-named t (judged_stretches t) b e

-- the first break of all steps is the first break of the steps up to it
module _ (s : Step) (x : List Step) (m next : Memories) (o after : Levels) (b : Break) where
  -- if the first break of `x` is the first one of the steps of `x` up to it, the same is so of the steps `s` and `x`
  first_break_from-cut_step : (f : Option Fault) (found : Option Break)
      → option_or (option_map (break_of_fault 1 s.time) f) (option_map (shifted_break 1) found) ≡ Some b
      → ((c : Break) → found ≡ Some c → first_break_from next after (take c.instant x) ≡ Some c)
      → ((k : ℕ) → first_break_from m o (s ∷ take k x)
      ≡ option_or (option_map (break_of_fault 1 s.time) f)
      (option_map (shifted_break 1) (first_break_from next after (take k x))))
      → first_break_from m o (take b.instant (s ∷ x)) ≡ Some b
  first_break_from-cut_step (Some f) found h so_far step =
      let same : break_of_fault 1 s.time f ≡ b = cc in
      ap (λ (b : Break). first_break_from m o (take b.instant (s ∷ x))) (sym same) ∙ step 0 ∙ h
  first_break_from-cut_step None None h so_far step = absurd (cc)
  first_break_from-cut_step None (Some c) h so_far step =
      let same : shifted_break 1 c ≡ b = cc in
      ap (λ (b : Break). first_break_from m o (take b.instant (s ∷ x))) (sym same)
      ∙ ap (λ k. first_break_from m o (take k (s ∷ x))) (add-one c.instant)
      ∙ step c.instant ∙ ap (option_map (shifted_break 1)) (so_far c refl) ∙ h

-- the first break of steps is that of the steps up to it
first_break_from-cut : (x : List Step) (m : Memories) (o : Levels) (b : Break) → first_break_from m o x ≡ Some b
    → first_break_from m o (take b.instant x) ≡ Some b
unfolding first_break_from
first_break_from-cut [] m o b h = absurd (cc)
first_break_from-cut (s ∷ x) m o b h =
    let after = changed o s.changes in
    let next = memories_next m o after s.changes in
    first_break_from-cut_step s x m next o after b (first_fault_of m o after s.changes) (first_break_from next after x)
    h
    (λ c e. first_break_from-cut x next after c e) (λ k. refl)

module _ (finds : FindsFirst) (starts : KnowsStart) where
  module _ (o : Levels) (x : List Step) (ok : malformed_step (recorded o x) ≡ None) (few : o.slots ≤ 21) where
    -- at the end of a recording the monitors have started exactly if it has a judged stretch
    has_started-at_end : has_started (known_phase (recorded o x) ok few (length x))
        ≡ has_any_stretch (judged_stretches (recorded o x))
    unfolding known_run
    has_started-at_end =
        ap has_started
        (sym (IsRunTo-take known_at (recorded o x) (opening_phase known_begin o) (length x) (omega arith)).leaving
        ∙ ap (λ (y : List Step). (known_run (opening_phase known_begin o) o y).leaving) (take_all (length x) x
        (omega arith)))
        ∙ starts (recorded o x) ok few

    -- at the first break of a recording the monitors have started exactly if it has a judged stretch
    has_started-at_break : (b : Break) → first_break_from (memories_at o) o x ≡ Some b → b.instant ≤ length x
        → has_started (known_phase (recorded o x) ok few b.instant) ≡ has_any_stretch (judged_stretches (recorded o x))
    unfolding known_run
    has_started-at_break b e h =
        let front = take b.instant x in
        let both : malformed_step (recorded o (front ++ drop b.instant x)) ≡ None =
        subst (λ (y : List Step). malformed_step (recorded o y) ≡ None) (sym (take-append-drop b.instant x)) ok in
        let sound : malformed_step (recorded o front) ≡ None =
        (SoundParts-of_well_formed o front (drop b.instant x) both).first in
        let judged : has_any_stretch (judged_stretches (recorded o front)) ≡ true =
        has_any_stretch-broken (recorded o front) b
        (finds (recorded o front) sound few ∙ first_break_from-cut x (memories_at o) o b e) in
        ap has_started (sym (IsRunTo-take known_at (recorded o x) (opening_phase known_begin o) b.instant h).leaving)
        ∙ starts (recorded o front) sound few ∙ judged
        ∙ sym (has_any_stretch-broken (recorded o x) b (finds (recorded o x) ok few ∙ e))

  module _ (r : Rule) where
    -- from the start of a part on, rule `r` is asked exactly if it was asked before or a part from this one on asks it
    abbrev HaveHappened : ℕ → Type 0
    HaveHappened n = (start : ℕ) (o : Levels) (x : List Step) (e : AskedEvents) → length x ≤ n
        → malformed_step (recorded o x) ≡ None → o.slots ≤ 21
        → asks_by (events_from (memories_at o) o (with_stretch e (has_started (memories_at o).known)) x) r
        ≡ (asks_by e r || list_any (asks r) (parts_from n (record { start = start; trace = recorded o x })))

    -- a part that opens at `start`, and the events `e` noted before it
    module _ (start : ℕ) (o : Levels) (x : List Step) (e : AskedEvents) (ok : malformed_step (recorded o x) ≡ None)
        (few : o.slots ≤ 21) where
      -- the part
      abbrev here : Part
      here = record { start = start; trace = recorded o x }

      -- the events noted before the part, and whether judging starts at its opening
      abbrev fresh : AskedEvents
      fresh = with_stretch e (has_started (memories_at o).known)

      -- in a part without a break a rule is asked exactly if it was before, or a stretch of the part asks it
      asks_by-last_part : first_break_from (memories_at o) o x ≡ None
          → asks_by (unbroken_events (memories_at o) o fresh x) r
          ≡ (asks_by e r || (list_any (asks_in (recorded o x) None r) (judged_stretches (recorded o x)) || false))
      asks_by-last_part found =
          ap (λ (y : List Step). asks_by (unbroken_events (memories_at o) o fresh y) r)
          (sym (take_all (length x) x (omega arith)))
          ∙ Asks-every o x ok few None (length x) (omega arith) (add-one (length x)) e (has_started-at_end o x ok few) r
          ∙ ap (λ b. asks_by e r || b)
          (sym (or-false (list_any (asks_in (recorded o x) None r) (judged_stretches (recorded o x)))))

      module _ (n : ℕ) (short : length x ≤ suc n) (b : Break) (w : BreakWithin (length x) (Some b)) where
        -- the levels at the break `b` of the part
        abbrev left : Levels
        left = levels_at (recorded o x) b.instant

        -- the rest after the break is shorter
        length-after_break : length (drop b.instant x) ≤ n
        length-after_break = simp length-drop (omega arith)

        -- after a part with a break, and those after it, a rule is asked exactly if it was before, or one of these
        -- parts asks it, if this holds of the parts after it
        asks_by-broken_part : HaveHappened n → first_break_from (memories_at o) o x ≡ Some b
            → asks_by (events_around_break (memories_at o) o fresh x (Some b)) r
            ≡ (asks_by e r || (list_any (asks_in (recorded o x) (Some b) r) (judged_stretches (recorded o x))
            || list_any (asks r) (parts_from n (part_after here b))))
        asks_by-broken_part happened_by found =
            happened_by (start + b.instant) left (drop b.instant x)
            (unbroken_events (memories_at o) o fresh (take b.instant x)) length-after_break
            (well_formed-rest_after (recorded o x) b.instant ok)
            (subst (λ k. k ≤ 21) (sym (slots-rest_after (recorded o x) b.instant)) few)
            ∙ ap (λ c. c || list_any (asks r) (parts_from n (part_after here b)))
            (Asks-every o x ok few (Some b) b.instant w.1 (add-one b.instant) e
            (has_started-at_break o x ok few b found w.1) r)
            ∙ or_assoc (asks_by e r) (list_any (asks_in (recorded o x) (Some b) r) (judged_stretches (recorded o x)))
            (list_any (asks r) (parts_from n (part_after here b)))

      -- after a part with a break or without one, and those after it, a rule is asked exactly if it was before, or one
      -- of these parts asks it
      asks_by-part : (n : ℕ) → length x ≤ suc n → HaveHappened n → (found : Option Break) → BreakWithin (length x) found
          → first_break_from (memories_at o) o x ≡ found
          → asks_by (events_around_break (memories_at o) o fresh x found) r
          ≡ (asks_by e r || (list_any (asks_in (recorded o x) found r) (judged_stretches (recorded o x))
          || list_any (asks r) (option_map_or (λ b. parts_from n (part_after here b)) found [])))
      asks_by-part n short happened_by None w found = asks_by-last_part found
      asks_by-part n short happened_by (Some b) w found = asks_by-broken_part n short b w happened_by found

    -- `HaveHappened` holds of parts of any number of steps
    pub HaveHappened-every : (n : ℕ) → HaveHappened n
    unfolding parts_from own_break asks first_break_from events_from unbroken_events
    HaveHappened-every zero start o [] e short ok few =
        rw (finds (recorded o []) ok few) (asks_by-last_part start o [] e ok few refl)
    HaveHappened-every zero start o (s ∷ x) e short ok few = absurd (omega arith)
    HaveHappened-every (suc n) start o x e short ok few =
        rw (
          finds (recorded o x) ok few,
          events_from-first_break x (memories_at o) o (with_stretch e (has_started (memories_at o).known)),
        )
        (asks_by-part start o x e ok few n short (HaveHappened-every n) (first_break_from (memories_at o) o x)
        (BreakWithin-first_break x (memories_at o) o) refl)
