-- Whether the last part of a recording is judged, by the memories of the monitors; and the instant of the last break.
use Rattle.std.proofs.Common.{◌≡◌, ℕ, zero, suc, ◌+◌, ◌≤◌, List, [], ◌∷◌, ◌++◌, length, drop}
use Rattle.std.proofs.Common.{refl}
use Rattle.std.proofs.Common.{sym, ◌∙◌, ap, subst, arith, add-one, append-nil, Option, None, Some}
use Rattle.std.proofs.lemmas.List.{length-drop}
use Rattle.std.specs.List.{fold}
use Rattle.std.specs.Option.{option_map, option_map_or, option_or}
use Rattle.vme_trace.specs.Levels.{Levels}
use Rattle.vme_trace.specs.Trace.{changed, levels_at, recorded}
use Rattle.vme_trace.specs.WellFormed.{malformed_step}
use Rattle.vme_trace.specs.declared.step.Step.{Step}
use Rattle.vme_trace.specs.declared.verdict.Break.{Break}
use Rattle.vme_monitor.specs.Outcome.{BreakWithin, shifted_break}
use Rattle.vme_monitor.specs.OverStretches.{has_started}
use Rattle.vme_monitor.specs.Run.{break_of_fault}
use Rattle.vme_monitor.specs.declared.mark.Fault.{Fault}
use Rattle.vme_audit.specs.Covered.{is_judged_part}
use Rattle.vme_audit.specs.Parts.{Part, last_from, own_break, part_after, parts_from}
use Rattle.vme_auditor.specs.Audited.{AuditReached, with_step}
use Rattle.vme_auditor.specs.Breaks.{last_instant_of}
use Rattle.vme_auditor.specs.FirstBreak.{first_break_from}
use Rattle.vme_auditor.specs.Memories.{first_fault_of, memories_at, memories_next}
use Rattle.vme_auditor.specs.declared.memories.Memories.{Memories}
use Rattle.vme_auditor.proofs.AskedParts.{KnowsStart, known-unbroken, unbroken_memories}
use Rattle.vme_auditor.proofs.CountedParts.{last_from-parts}
use Rattle.vme_auditor.proofs.FirstBreaks.{BreakWithin-first_break}
use Rattle.vme_auditor.proofs.ReturnedBreaks.{FindsFirst, levels_at-later_step, memories_after, memories-with_step}
use Rattle.vme_auditor.proofs.ReturnedBreaks.{slots-rest_after, well_formed-rest_after}

-- the memories of the monitors after steps `x`, where they start anew at each break
unfoldable pub memories_from : Memories → Levels → List Step → Memories
memories_from m o [] = m
memories_from m o (s ∷ x) =
    let after = changed o s.changes in
    memories_from (memories_after (first_fault_of m o after s.changes) after
    (memories_next m o after s.changes)) after x

-- the memories of an audit after the steps `x` are those of the monitors, from its memories on
pub memories-after_steps : (x : List Step) (r : AuditReached) → (fold with_step r x).audit.memories
    ≡ memories_from r.audit.memories r.levels x
unfolding memories_from
memories-after_steps [] r = refl
memories-after_steps (s ∷ x) r =
    memories-after_steps x (with_step r s)
    ∙ ap (λ (m : Memories). memories_from m (changed r.levels s.changes) x) (memories-with_step r s)

-- the memories after steps `x`, of which `b` is the first break: from there on the monitors start anew
abbrev memories_around_break : Memories → Levels → List Step → Option Break → Memories
memories_around_break m o x None = unbroken_memories m o x
memories_around_break m o x (Some b) =
    let left = levels_at (recorded o x) b.instant in
    memories_from (memories_at left) left (drop b.instant x)

module _ (m : Memories) (o : Levels) (s : Step) (x : List Step) where
  -- the levels after the step
  abbrev after : Levels
  after = changed o s.changes

  -- the memories after the step, if it is no break
  abbrev next : Memories
  next = memories_next m o after s.changes

  -- the break found in `x` is one instant later if `s` comes before
  memories_around_break-shifted : (found : Option Break) → memories_around_break next after x found
      ≡ memories_around_break m o (s ∷ x) (option_map (shifted_break 1) found)
  unfolding unbroken_memories
  memories_around_break-shifted None = refl
  memories_around_break-shifted (Some b) = rw (add-one b.instant, levels_at-later_step o s x b.instant) refl

  -- if the memories after `x` are those around the first break of `x`, so are those after `s` and `x`
  memories_around_break-step : (f : Option Fault) (time : ℕ) → memories_from next after x
      ≡ memories_around_break next after x (first_break_from next after x)
      → memories_from (memories_after f after next) after x
      ≡ memories_around_break m o (s ∷ x)
      (option_or (option_map (break_of_fault 1 time) f) (option_map (shifted_break 1) (first_break_from next after x)))
  unfolding levels_at unbroken_memories
  memories_around_break-step None time so_far = so_far ∙ memories_around_break-shifted (first_break_from next after x)
  memories_around_break-step (Some f) time so_far = refl

-- the memories after steps are those around their first break
memories_from-first_break : (x : List Step) (m : Memories) (o : Levels) → memories_from m o x
    ≡ memories_around_break m o x (first_break_from m o x)
unfolding memories_from unbroken_memories first_break_from
memories_from-first_break [] m o = refl
memories_from-first_break (s ∷ x) m o =
    memories_around_break-step m o s x (first_fault_of m o (changed o s.changes) s.changes) s.time
    (memories_from-first_break x (next m o s x) (after m o s x))

module _ (finds : FindsFirst) (starts : KnowsStart) where
  -- after steps `x` the monitors have started exactly if the last part is judged
  abbrev AreJudged : ℕ → Type 0
  AreJudged n = (start : ℕ) (o : Levels) (x : List Step) → length x ≤ n → malformed_step (recorded o x) ≡ None
      → o.slots ≤ 21
      → let p : Part = record { start = start; trace = recorded o x } in
      has_started (memories_from (memories_at o) o x).known ≡ is_judged_part (last_from p (parts_from n p))

  -- a part that opens at `start`
  module _ (start : ℕ) (o : Levels) (x : List Step) (ok : malformed_step (recorded o x) ≡ None)
      (few : o.slots ≤ 21) where
    -- the part
    abbrev here : Part
    here = record { start = start; trace = recorded o x }

    -- after a part without a break the monitors have started exactly if it is judged
    judged-last_part : has_started (unbroken_memories (memories_at o) o x).known ≡ is_judged_part here
    unfolding is_judged_part
    judged-last_part = ap has_started (known-unbroken x (memories_at o) o) ∙ starts (recorded o x) ok few

    -- after a part with a break or without one, and the parts after it, the monitors have started exactly if the last
    -- part is judged
    judged-part : (n : ℕ) → length x ≤ suc n → AreJudged n → (found : Option Break) → BreakWithin (length x) found
        → has_started (memories_around_break (memories_at o) o x found).known
        ≡ is_judged_part (last_from here (option_map_or (λ b. parts_from n (part_after here b)) found []))
    judged-part n short judged None w = judged-last_part
    judged-part n short judged (Some b) w =
        let fewer : length (drop b.instant x) ≤ n = simp length-drop (omega arith) in
        judged (start + b.instant) (levels_at (recorded o x) b.instant) (drop b.instant x) fewer
        (well_formed-rest_after (recorded o x) b.instant ok)
        (subst (λ k. k ≤ 21) (sym (slots-rest_after (recorded o x) b.instant)) few)
        ∙ ap is_judged_part (sym (last_from-parts n here (part_after here b)))

  -- `AreJudged` holds of parts of any number of steps
  pub AreJudged-every : (n : ℕ) → AreJudged n
  unfolding parts_from own_break first_break_from memories_from unbroken_memories
  AreJudged-every zero start o [] short ok few = judged-last_part start o [] ok few
  AreJudged-every zero start o (s ∷ x) short ok few = absurd (omega arith)
  AreJudged-every (suc n) start o x short ok few =
      rw (finds (recorded o x) ok few, memories_from-first_break x (memories_at o) o)
      (judged-part start o x ok few n short (AreJudged-every n) (first_break_from (memories_at o) o x)
      (BreakWithin-first_break x (memories_at o) o))

-- the instant of the last break is that of the last one returned
last_instant_of-last : (bs : List Break) (b : Break) → last_instant_of (bs ++ b ∷ []) ≡ Some b.instant
last_instant_of-last [] b = refl
last_instant_of-last (c ∷ []) b = refl
last_instant_of-last (c ∷ d ∷ bs) b = last_instant_of-last (d ∷ bs) b

-- the last break that the audit keeps is the last one that it returned
abbrev HasLastBreak : AuditReached → Type 0
HasLastBreak r = r.audit.last_break ≡ last_instant_of r.returned

-- `HasLastBreak` holds after a step if it does before
HasLastBreak-step : (r : AuditReached) (s : Step) → HasLastBreak r → HasLastBreak (with_step r s)
HasLastBreak-step r s so_far =
    by_fault (first_fault_of r.audit.memories r.levels (changed r.levels s.changes) s.changes) refl
  where
    by_fault : (f : Option Fault) → first_fault_of r.audit.memories r.levels (changed r.levels s.changes) s.changes ≡ f
        → HasLastBreak (with_step r s)
    by_fault None e = rw e (so_far ∙ ap last_instant_of (sym (append-nil r.returned)))
    by_fault (Some f) e = rw e (sym (last_instant_of-last r.returned (break_of_fault (r.instant + 1) s.time f)))

-- `HasLastBreak` holds after steps if it does before
pub HasLastBreak-steps : (x : List Step) (r : AuditReached) → HasLastBreak r → HasLastBreak (fold with_step r x)
HasLastBreak-steps [] r so_far = so_far
HasLastBreak-steps (s ∷ x) r so_far = HasLastBreak-steps x (with_step r s) (HasLastBreak-step r s so_far)
