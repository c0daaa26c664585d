-- What an audit has audited (`HasAuditedSteps`) after one more step.
use Rattle.std.proofs.Common.{◌≡◌, ℕ, ◌+◌, ◌-◌, ◌^◌, ◌≤◌, true, false, List, [], ◌∷◌, ◌++◌, length, sym, ◌∙◌}
use Rattle.std.proofs.Common.{ap, subst, arith, append-nil, length-append, Option, None}
use Rattle.std.specs.Option.{option_to_list}
use Rattle.vme_trace.specs.Followed.{with_steps}
use Rattle.vme_trace.specs.Levels.{Levels}
use Rattle.vme_trace.specs.Trace.{Trace}
use Rattle.vme_trace.specs.WellFormed.{malformed_step}
use Rattle.vme_trace.specs.declared.step.Step.{Step}
use Rattle.vme_trace.specs.declared.verdict.Break.{Break}
use Rattle.vme_audit.specs.Parts.{breaks}
use Rattle.vme_audit.specs.declared.allowance.Allowance.{Allowance}
use Rattle.vme_audit_lines.specs.AuditLines.{category_of}
use Rattle.vme_auditor.specs.Findings.{AreBreakCountsOf}
use Rattle.vme_auditor.specs.declared.findings.BreakCounts.{BreakCounts}
use Rattle.vme_step_auditor.specs.ReadBy.{is_stopped, read_by, stops_by}
use Rattle.vme_step_auditor.specs.Counting.{all_counted, faults_counted, with_category}
use Rattle.vme_step_auditor.specs.AuditedSteps.{HasAuditedSteps}
use Rattle.vme_step_auditor.proofs.ReadOn.{BreaksWithin, EachStepBreaks, well_formed-front, read_by-unstopped}
use Rattle.vme_step_auditor.proofs.ReadOn.{read_by-stopped, read_by-step}
use Rattle.vme_step_auditor.proofs.ReadOn.{read_by-unbroken, is_stopped-stays}
use Rattle.vme_step_auditor.proofs.Tallying.{AreBreakCountsOf-none, AreBreakCountsOf-break, AreBreakCountsOf-same}
use Rattle.vme_step_auditor.proofs.Tallying.{all_counted-with_category, faults_counted-faults}

-- `HasAuditedSteps` holds before the first step
pub HasAuditedSteps-first : (allowances : List Allowance) (stop : Option ℕ) (o : Levels) (audited : Trace)
    (c : BreakCounts)
    → breaks (record { opening = o; steps = [] }) ≡ [] → audited ≡ record { opening = o; steps = [] }
    → c.broken ≡ 0 → c.unreadable ≡ 0 → c.allowed ≡ 0
    → HasAuditedSteps allowances stop (record { opening = o; steps = [] }) audited c
HasAuditedSteps-first allowances stop o audited c none same broken unreadable allowed =
    let given : Trace = record { opening = o; steps = [] } in
    let counted = AreBreakCountsOf-none allowances c given broken unreadable allowed none in
    let length_is : length audited.steps ≡ 0 = ap (λ (t : Trace). length t.steps) same in
    record {
      few = omega (arith, broken, unreadable, allowed);
      fits = omega (arith, length_is);
      all_read = λ h. same;
      read = λ ok. same ∙ sym (read_by-unbroken allowances stop given none);
      counted = λ ok. subst (AreBreakCountsOf c allowances) (sym same) counted;
      stopped = λ ok. ap (stops_by stop) (faults_counted-faults allowances c given counted);
    }

-- one more step `s`
module _ (grow : EachStepBreaks) (within : BreaksWithin) (allowances : List Allowance) (stop : Option ℕ)
    (given audited : Trace) (c : BreakCounts) (audited_so_far : HasAuditedSteps allowances stop given audited c)
    (s : Step)
    (slots : given.opening.slots ≤ 21) where
  -- the given recording with the step
  abbrev next : Trace
  next = with_steps given (s ∷ [])

  -- after the audit has stopped
  module _ (h : stops_by stop (faults_counted c) ≡ true) where
    -- the given recording has so many breaks that the audit has stopped
    is_stopped-given : malformed_step next ≡ None → is_stopped allowances stop given ≡ true
    is_stopped-given ok = sym (audited_so_far.stopped (well_formed-front given (s ∷ []) ok)) ∙ h

    -- `HasAuditedSteps` holds after a step that isn't audited, since the audit has stopped
    pub HasAuditedSteps-stopped : HasAuditedSteps allowances stop next audited c
    HasAuditedSteps-stopped =
        record {
          few = audited_so_far.few;
          fits = audited_so_far.fits;
          all_read = λ e. absurd (cc);
          read =
              λ ok.
              audited_so_far.read (well_formed-front given (s ∷ []) ok)
              ∙ sym (read_by-stopped allowances grow within stop given (s ∷ []) ok slots (is_stopped-given ok));
          counted = λ ok. audited_so_far.counted (well_formed-front given (s ∷ []) ok);
          stopped =
              λ ok. h ∙ sym (is_stopped-stays allowances grow within stop given (s ∷ []) ok slots
              (is_stopped-given ok));
        }

    -- a step after the audit has stopped adds no break to what is read
    pub breaks-none_added : malformed_step next ≡ None → breaks (read_by allowances stop next)
        ≡ breaks (read_by allowances stop given) ++ []
    breaks-none_added ok =
        ap (λ (t : Trace). breaks t)
        (read_by-stopped allowances grow within stop given (s ∷ []) ok slots (is_stopped-given ok))
        ∙ sym (append-nil (breaks (read_by allowances stop given)))

  -- as long as the audit hasn't stopped
  module _ (h : stops_by stop (faults_counted c) ≡ false) (later : Trace) (on : later ≡ with_steps audited (s ∷ []))
    where
      -- the given recording hasn't so many breaks that the audit stops
      is_stopped-not_yet : malformed_step next ≡ None → is_stopped allowances stop given ≡ false
      is_stopped-not_yet ok = sym (audited_so_far.stopped (well_formed-front given (s ∷ []) ok)) ∙ h

      -- what is audited with the step is the given recording with it
      pub later-next : later ≡ next
      later-next = on ∙ ap (λ (t : Trace). with_steps t (s ∷ [])) (audited_so_far.all_read h)

      -- an audit that hasn't stopped reads the step
      read_by-next : malformed_step next ≡ None → read_by allowances stop next ≡ next
      read_by-next ok = read_by-step allowances stop given s (grow given s ok slots) (is_stopped-not_yet ok)

      -- `HasAuditedSteps` holds after a step that is audited, if the counts are then those of the breaks
      HasAuditedSteps-step : (d : BreakCounts) → all_counted d ≤ all_counted c + 1
          → (length audited.steps ≡ 2 ^ 64 - 1 → ⊥) → (malformed_step next ≡ None → AreBreakCountsOf d allowances later)
          → HasAuditedSteps allowances stop next later d
      HasAuditedSteps-step d one_more room counted =
          let longer : length later.steps ≡ length audited.steps + 1 =
          ap (λ (t : Trace). length t.steps) on ∙ length-append audited.steps (s ∷ []) in
          let at_next : malformed_step next ≡ None → AreBreakCountsOf d allowances next =
          λ ok. subst (AreBreakCountsOf d allowances) later-next (counted ok) in
          record {
            few = omega (arith, longer, audited_so_far.few, one_more);
            fits = below_limit (length audited.steps) (length later.steps) longer audited_so_far.fits room;
            all_read = λ e. later-next;
            read = λ ok. later-next ∙ sym (read_by-next ok);
            counted = counted;
            stopped = λ ok. ap (stops_by stop) (faults_counted-faults allowances d next (at_next ok));
          }
        where
          below_limit : (n m : ℕ) → m ≡ n + 1 → n ≤ 2 ^ 64 - 1 → (n ≡ 2 ^ 64 - 1 → ⊥) → m ≤ 2 ^ 64 - 1
          below_limit n m e le room = grind (arith)

      -- what is audited with the step is well formed, if what is given is
      well_formed-later : malformed_step next ≡ None → malformed_step later ≡ None
      well_formed-later ok = subst (λ (t : Trace). malformed_step t ≡ None) (sym later-next) ok

      -- what is read has the break that the step made, if any, after those before
      pub breaks-found_added : (found : Option Break)
          → (malformed_step later ≡ None → breaks later ≡ breaks audited ++ option_to_list found)
          → malformed_step next ≡ None → breaks (read_by allowances stop next)
          ≡ breaks (read_by allowances stop given) ++ option_to_list found
      breaks-found_added found breaks_grow ok =
          ap (λ (t : Trace). breaks t) (read_by-next ok ∙ sym later-next) ∙ breaks_grow (well_formed-later ok)
          ∙ ap (λ (t : Trace). breaks t ++ option_to_list found)
          (audited_so_far.all_read h ∙ sym (read_by-unstopped allowances stop given (is_stopped-not_yet ok)))

      module _ (room : length audited.steps ≡ 2 ^ 64 - 1 → ⊥) where
        -- `HasAuditedSteps` holds after a step that breaks a rule, which its category counts
        pub HasAuditedSteps-break : (found : Break)
            → (malformed_step later ≡ None → breaks later ≡ breaks audited ++ found ∷ [])
            → HasAuditedSteps allowances stop next later (with_category c (category_of allowances found))
        HasAuditedSteps-break found breaks_grow =
            let one : all_counted (with_category c (category_of allowances found)) ≡ all_counted c + 1 =
            all_counted-with_category c (category_of allowances found) in
            HasAuditedSteps-step (with_category c (category_of allowances found)) (omega (arith, one)) room
            (λ ok. AreBreakCountsOf-break allowances c audited later found
            (audited_so_far.counted (well_formed-front given (s ∷ []) ok)) (breaks_grow (well_formed-later ok)))

        -- `HasAuditedSteps` holds after a step that breaks no rule
        pub HasAuditedSteps-conforming : (malformed_step later ≡ None → breaks later ≡ breaks audited ++ [])
            → HasAuditedSteps allowances stop next later c
        HasAuditedSteps-conforming breaks_grow =
            HasAuditedSteps-step c (omega arith) room
            (λ ok. AreBreakCountsOf-same allowances c audited later
            (audited_so_far.counted (well_formed-front given (s ∷ []) ok))
            (breaks_grow (well_formed-later ok) ∙ append-nil (breaks audited)))
