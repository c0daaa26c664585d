-- The breaks that an audit returns step by step are the breaks of the parts.
use Rattle.std.proofs.Common.{◌≡◌, ℕ, zero, suc, ◌+◌, ◌≤◌, List, [], ◌∷◌, ◌++◌, length, take, drop, refl, sym, ◌∙◌}
use Rattle.std.proofs.Common.{ap, subst, arith, append_assoc, append-nil, add-one, Option, None, Some}
use Rattle.std.proofs.lemmas.List.{length-drop, take-append-drop}
use Rattle.std.specs.List.{fold}
use Rattle.std.specs.Option.{option_map, option_map_or, option_or, option_to_list}
use Rattle.vme_trace.specs.Levels.{Levels}
use Rattle.vme_trace.specs.Trace.{Trace, changed, levels_after, levels_at, recorded}
use Rattle.vme_trace.specs.Verdict.{verdict}
use Rattle.vme_trace.specs.WellFormed.{malformed_step}
use Rattle.vme_trace.specs.declared.step.Step.{Step}
use Rattle.vme_trace.specs.declared.verdict.Break.{Break}
use Rattle.vme_trace.proofs.Changing.{slots-kept}
use Rattle.vme_trace.proofs.CutBlocks.{levels_at-taken}
use Rattle.vme_monitor.specs.Outcome.{BreakWithin, shifted_break}
use Rattle.vme_monitor.specs.Run.{break_of_fault}
use Rattle.vme_monitor.specs.declared.mark.Fault.{Fault}
use Rattle.vme_audit.specs.Parts.{breaks, breaks_of, moved_by, named_break, own_break, part_after, parts}
use Rattle.vme_audit.specs.Parts.{parts_from}
use Rattle.vme_audit.specs.Parts.{rest_after}
use Rattle.vme_summary.proofs.Sound.{SoundParts-of_well_formed}
use Rattle.vme_auditor.specs.Audited.{AuditReached, reached_after, reached_at, with_step}
use Rattle.vme_auditor.specs.FirstBreak.{first_break_from}
use Rattle.vme_auditor.specs.Memories.{fault_at, first_fault_of, memories_at, memories_next}
use Rattle.vme_auditor.specs.declared.memories.Memories.{Memories}
use Rattle.vme_auditor.proofs.FirstBreaks.{BreakWithin-first_break}

-- the memories after a step: at a break they start anew
abbrev pub memories_after : Option Fault → Levels → Memories → Memories
memories_after None after m = m
memories_after (Some f) after m = memories_at after

-- the breaks returned at steps `x` after instant `n`, by monitors that start from memories `m`
unfoldable pub returned_by : Memories → Levels → ℕ → List Step → List Break
returned_by m o n [] = []
returned_by m o n (s ∷ x) =
    let after = changed o s.changes in
    option_to_list (fault_at m o after s.changes (n + 1) s.time)
    ++ returned_by (memories_after (first_fault_of m o after s.changes) after (memories_next m o after s.changes)) after
    (n + 1) x

-- the memories of an audit after one more step are what `memories_after` makes of those before it
pub memories-with_step : (r : AuditReached) (s : Step) → (with_step r s).audit.memories
    ≡ memories_after (first_fault_of r.audit.memories r.levels (changed r.levels s.changes) s.changes)
    (changed r.levels s.changes) (memories_next r.audit.memories r.levels (changed r.levels s.changes) s.changes)
memories-with_step r s = by_fault (first_fault_of r.audit.memories r.levels (changed r.levels s.changes) s.changes) refl
  where
    by_fault : (f : Option Fault) → first_fault_of r.audit.memories r.levels (changed r.levels s.changes) s.changes ≡ f
        → (with_step r s).audit.memories ≡ memories_after f (changed r.levels s.changes)
        (memories_next r.audit.memories r.levels (changed r.levels s.changes) s.changes)
    by_fault None e = rw e refl
    by_fault (Some f) e = rw e refl

-- the breaks that an audit has returned after the steps `x` are those before, and those returned by its monitors from
-- then on
returned-after_steps : (x : List Step) (r : AuditReached) → (fold with_step r x).returned
    ≡ r.returned ++ returned_by r.audit.memories r.levels r.instant x
unfolding returned_by
returned-after_steps [] r = sym (append-nil r.returned)
returned-after_steps (s ∷ x) r =
    let after = changed r.levels s.changes in
    let found = option_to_list (fault_at r.audit.memories r.levels after s.changes (r.instant + 1) s.time) in
    returned-after_steps x (with_step r s)
    ∙ append_assoc r.returned found (returned_by (with_step r s).audit.memories after (r.instant + 1) x)
    ∙ ap (λ (m : Memories). r.returned ++ (found ++ returned_by m after (r.instant + 1) x)) (memories-with_step r s)

-- the levels after one more instant, with a step before the others, are those after the others from there
pub levels_at-later_step : (o : Levels) (s : Step) (x : List Step) (n : ℕ) → levels_at (recorded o (s ∷ x)) (suc n)
    ≡ levels_at (recorded (changed o s.changes) x) n
unfolding levels_at
levels_at-later_step o s x zero = refl
levels_at-later_step o s x (suc n) = rw (levels_at-later_step o s x n) refl

-- the breaks returned where judging starts anew at levels `o`
abbrev returned_on_restart : Levels → ℕ → List Step → List Break
returned_on_restart o n x = returned_by (memories_at o) o n x

-- a break, and the breaks returned after it
abbrev returned_after : Levels → ℕ → List Step → Option Break → List Break
returned_after o n x None = []
returned_after o n x (Some b) =
    moved_by n b ∷ returned_on_restart (levels_at (recorded o x) b.instant) (n + b.instant) (drop b.instant x)

-- the break found in `x` is one instant later if a step comes before
returned_after-shifted : (o : Levels) (n : ℕ) (s : Step) (x : List Step) (e : Option Break)
    → returned_after (changed o s.changes) (n + 1) x e ≡ returned_after o n (s ∷ x) (option_map (shifted_break 1) e)
returned_after-shifted o n s x None = refl
returned_after-shifted o n s x (Some b) =
    let same : (n + 1) + b.instant ≡ n + suc b.instant = omega arith in
    rw (add-one b.instant, levels_at-later_step o s x b.instant, same) refl

-- the breaks returned from a step on are the first break and those returned after it
module _ (o : Levels) (s : Step) (x : List Step) (n : ℕ) where
  -- the levels after step `s`
  abbrev after : Levels
  after = changed o s.changes

  -- if the breaks returned after step `s` are the first one there and those after it, so are those from `s` on
  returned_by-step : (f : Option Fault) (m : Memories) → returned_by m after (n + 1) x
      ≡ returned_after after (n + 1) x (first_break_from m after x)
      → option_to_list (option_map (break_of_fault (n + 1) s.time) f)
      ++ returned_by (memories_after f after m) after (n + 1) x ≡ returned_after o n (s ∷ x)
      (option_or (option_map (break_of_fault 1 s.time) f) (option_map (shifted_break 1) (first_break_from m after x)))
  unfolding levels_at
  returned_by-step None m so_far = so_far ∙ returned_after-shifted o n s x (first_break_from m after x)
  returned_by-step (Some f) m so_far = refl

-- the breaks returned at steps are the first one and those returned after it
returned_by-first_break : (x : List Step) (m : Memories) (o : Levels) (n : ℕ) → returned_by m o n x
    ≡ returned_after o n x (first_break_from m o x)
unfolding returned_by first_break_from
returned_by-first_break [] m o n = refl
returned_by-first_break (s ∷ x) m o n =
    let after = changed o s.changes in
    let next = memories_next m o after s.changes in
    returned_by-step o s x n (first_fault_of m o after s.changes) next (returned_by-first_break x next after (n + 1))

-- steps leave the number of slots as it is
slots-levels_after : (x : List Step) (o : Levels) → (levels_after o x).slots ≡ o.slots
slots-levels_after [] o = refl
slots-levels_after (s ∷ x) o = slots-levels_after x (changed o s.changes) ∙ slots-kept o s.changes

-- what remains of a recording after an instant has the same slots
pub slots-rest_after : (t : Trace) (j : ℕ) → (rest_after t j).opening.slots ≡ t.opening.slots
slots-rest_after t j =
    ap (λ (v : Levels). v.slots) (levels_at-taken t j) ∙ slots-levels_after (take j t.steps) t.opening

-- what remains of a well-formed recording after an instant is well formed
pub well_formed-rest_after : (t : Trace) (j : ℕ) → malformed_step t ≡ None → malformed_step (rest_after t j) ≡ None
well_formed-rest_after t j ok =
    let whole : malformed_step (recorded t.opening (take j t.steps ++ drop j t.steps)) ≡ None =
    subst (λ (x : List Step). malformed_step (recorded t.opening x) ≡ None) (sym (take-append-drop j t.steps)) ok in
    subst (λ (v : Levels). malformed_step (recorded v (drop j t.steps)) ≡ None) (sym (levels_at-taken t j))
    (SoundParts-of_well_formed t.opening (take j t.steps) (drop j t.steps) whole).second

-- the monitors find the break that a verdict names
abbrev pub FindsFirst : Type 0
FindsFirst = (t : Trace) → malformed_step t ≡ None → t.opening.slots ≤ 21
    → named_break (verdict t) ≡ first_break_from (memories_at t.opening) t.opening t.steps

module _ (finds : FindsFirst) where
  -- the breaks of the parts of a recording with at most so many steps are the returned ones
  abbrev AreReturned : ℕ → Type 0
  AreReturned n = (start : ℕ) (o : Levels) (x : List Step) → length x ≤ n → malformed_step (recorded o x) ≡ None
      → o.slots ≤ 21
      → breaks_of (parts_from n (record { start = start; trace = recorded o x })) ≡ returned_on_restart o start x

  -- the break of a part, if it has one, and the breaks of the parts after it are those returned after it
  breaks_of-after_first : (n start : ℕ) (o : Levels) (x : List Step) → length x ≤ suc n
      → malformed_step (recorded o x) ≡ None → o.slots ≤ 21 → AreReturned n → (e : Option Break)
      → BreakWithin (length x) e
      → option_to_list (option_map (moved_by start) e) ++ breaks_of (option_map_or
      (λ b. parts_from n (part_after (record { start = start; trace = recorded o x }) b)) e [])
      ≡ returned_after o start x e
  breaks_of-after_first n start o x few ok slots returned None w = refl
  breaks_of-after_first n start o x few ok slots returned (Some b) w =
      let fewer : length (drop b.instant x) ≤ n = simp length-drop (omega arith) in
      ap (λ bs. moved_by start b ∷ bs)
      (returned (start + b.instant) (levels_at (recorded o x) b.instant) (drop b.instant x) fewer
      (well_formed-rest_after (recorded o x) b.instant ok)
      (subst (λ k. k ≤ 21) (sym (slots-rest_after (recorded o x) b.instant)) slots))

  -- `AreReturned` holds of any number of steps
  AreReturned-every : (n : ℕ) → AreReturned n
  unfolding parts_from own_break first_break_from
  AreReturned-every zero start o [] few ok slots =
      rw (finds (recorded o []) ok slots) (sym (returned_by-first_break [] (memories_at o) o start))
  AreReturned-every zero start o (s ∷ x) few ok slots = absurd (omega arith)
  AreReturned-every (suc n) start o x few ok slots =
      rw (finds (recorded o x) ok slots, returned_by-first_break x (memories_at o) o start)
      (breaks_of-after_first n start o x few ok slots (AreReturned-every n) (first_break_from (memories_at o) o x)
      (BreakWithin-first_break x (memories_at o) o))

  -- the breaks of a recording are those that an audit returns
  pub breaks-returned : (t : Trace) → malformed_step t ≡ None → t.opening.slots ≤ 21
      → breaks t ≡ (reached_after t.opening t.steps).returned
  unfolding parts reached_after
  breaks-returned t ok slots =
      AreReturned-every (length t.steps) 0 t.opening t.steps (omega arith) ok slots
      ∙ sym (returned-after_steps t.steps (reached_at t.opening))
