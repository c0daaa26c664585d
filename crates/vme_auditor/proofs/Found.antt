-- What an audit has found after the steps of a recording is what the definitions say of the recording.
use Rattle.std.proofs.Common.{◌≡◌, ℕ, ◌+◌, ◌-◌, ◌^◌, ◌≤◌, suc, Bool, false, ◌||◌, List, length, refl, sym, ◌∙◌, ap}
use Rattle.std.proofs.Common.{arith, Option, None, Some}
use Rattle.std.specs.Option.{option_map}
use Rattle.vme_trace.specs.Levels.{Levels}
use Rattle.vme_trace.specs.Trace.{Trace, recorded}
use Rattle.vme_trace.specs.WellFormed.{malformed_step}
use Rattle.vme_trace.specs.declared.rule.Rule.{Rule}
use Rattle.vme_trace.specs.declared.rule.Rule.TheVariants as rule
use Rattle.vme_trace.specs.declared.step.Step.{Step}
use Rattle.vme_monitor.specs.OverStretches.{has_started}
use Rattle.vme_monitor.specs.declared.view.StepView.{StepView}
use Rattle.vme_audit.specs.AskedRules.{is_asked}
use Rattle.vme_audit.specs.Counted.{counts, nothing_counted, rows_of}
use Rattle.vme_audit.specs.Covered.{hang, hanging, is_judged_part}
use Rattle.vme_audit.specs.Parts.{breaks, last_part, parts}
use Rattle.vme_auditor.specs.Audited.{HasAudited, reached_after, reached_at}
use Rattle.vme_auditor.specs.Breaks.{last_instant_of}
use Rattle.vme_auditor.specs.Events.{asks_by, nothing_happened}
use Rattle.vme_auditor.specs.Findings.{started_at}
use Rattle.vme_auditor.specs.Memories.{memories_at}
use Rattle.vme_auditor.specs.Tallied.{counted, counts_so_far, hang_so_far, no_counts}
use Rattle.vme_auditor.specs.declared.asked.AskedEvents.{AskedEvents}
use Rattle.vme_auditor.specs.declared.audit.Audit.{Audit}
use Rattle.vme_auditor.specs.declared.tally.StartedTransfer.{StartedTransfer}
use Rattle.vme_auditor.specs.declared.tally.Tally.{Tally}
use Rattle.vme_auditor.proofs.AskedParts.{KnowsStart, events-after_steps, HaveHappened-every}
use Rattle.vme_auditor.proofs.CountedParts.{AreCounted-every, AreHung-every, started_of}
use Rattle.vme_auditor.proofs.JudgedParts.{HasLastBreak-steps, memories-after_steps, AreJudged-every}
use Rattle.vme_auditor.proofs.MarkCounts.{sum_of-nothing}
use Rattle.vme_auditor.proofs.PartRows.{ShowsMarks}
use Rattle.vme_auditor.proofs.TalliedSteps.{tally-after_steps, tally_by}
use Rattle.vme_auditor.proofs.TallyBounds.{Fits, IsExact, pending_exact, tally_exact}
use Rattle.vme_auditor.proofs.ReturnedBreaks.{FindsFirst, breaks-returned}

-- no rule is asked before a recording
asks_by-nothing : (r : Rule) → asks_by nothing_happened r ≡ false
asks_by-nothing rule.U1 = refl
asks_by-nothing r = refl

-- nothing is counted before a recording
Fits-nothing : Fits 0 0 0 0 nothing_counted None
Fits-nothing =
    record {
      resets = omega arith;
      tenures = omega arith;
      single = omega arith;
      block = omega arith;
      free = omega arith;
      acknowledge = omega arith;
      moved = omega arith;
      served = omega arith;
    }

-- the start of a transfer of the last part is that in the recording
started_at-last_part : (t : Trace) (h : Option ℕ)
    → option_map {U = ℕ × ℕ} (λ (s : StartedTransfer). (s.instant, s.time))
    (option_map (started_of (last_part t)) h)
    ≡ option_map (started_at t) h
started_at-last_part t None = refl
started_at-last_part t (Some start) = refl

module _ (finds : FindsFirst) (o : Levels) (x : List Step) (n : ℕ) (view : StepView) (a : Audit)
    (keeps : HasAudited o x n view a) (ok : malformed_step (recorded o x) ≡ None) (few : o.slots ≤ 21) where
  -- the last break is that of the recording
  pub last_break-found : a.last_break ≡ last_instant_of (breaks (recorded o x))
  unfolding reached_after
  last_break-found =
      ap (λ (a : Audit). a.last_break) keeps.audit_is ∙ HasLastBreak-steps x (reached_at o) refl
      ∙ ap last_instant_of (sym (breaks-returned finds (recorded o x) ok few))

  -- the monitors have started exactly if the last part is judged
  pub judged-found : KnowsStart → has_started a.memories.known ≡ is_judged_part (last_part (recorded o x))
  unfolding reached_after parts
  judged-found starts =
      ap (λ (a : Audit). has_started a.memories.known) keeps.audit_is
      ∙ ap has_started (ap (λ m. m.known) (memories-after_steps x (reached_at o)))
      ∙ AreJudged-every finds starts (length x) 0 o x (omega arith) ok few

  -- the rules that are noted as asked are those that the recording asks
  pub asked-found : KnowsStart → (r : Rule) → asks_by a.events r ≡ is_asked (recorded o x) r
  unfolding reached_after parts is_asked
  asked-found starts r =
      ap (λ (a : Audit). asks_by a.events r) keeps.audit_is
      ∙ ap (λ (e : AskedEvents). asks_by e r) (events-after_steps x (reached_at o))
      ∙ HaveHappened-every finds starts r (length x) 0 o x nothing_happened (omega arith) ok few
      ∙ by_nothing (asks_by nothing_happened r) (asks_by-nothing r)
    where
      by_nothing : (b : Bool) → b ≡ false → (b || is_asked (recorded o x) r) ≡ is_asked (recorded o x) r
      by_nothing b e = rw e refl

  module _ (shows : ShowsMarks) (fits : n ≤ 2 ^ 64 - 1) where
    -- the tally of the steps without saturation
    abbrev exact : Tally
    exact = tally_by suc (memories_at o) o 0 no_counts x

    -- the number of the steps is one of 64 bits
    steps-below_limit : 0 + length x ≤ 2 ^ 64 - 1
    steps-below_limit = omega (arith, keeps.counted, fits)

    -- the saturating tally is the exact one
    IsExact-steps : IsExact (0 + length x) (0 + length x) (0 + length x) (0 + length x)
        (tally_by counted (memories_at o) o 0 no_counts x) exact
    IsExact-steps = tally_exact x (memories_at o) o 0 no_counts 0 Fits-nothing steps-below_limit

    -- the tally of the audit is the exact one
    tally-exact : a.tally ≡ exact
    unfolding reached_after
    tally-exact =
        ap (λ (a : Audit). a.tally) keeps.audit_is ∙ tally-after_steps x (reached_at o) ∙ IsExact-steps.same

    -- the counts are those of the recording
    pub counts-found : counts_so_far counted a.tally ≡ counts (recorded o x)
    unfolding parts
    counts-found =
        ap (counts_so_far counted) tally-exact
        ∙ ap (λ (a : Tally). a.counts)
        (pending_exact (0 + length x) (0 + length x) (0 + length x) (0 + length x) exact IsExact-steps.fits
        steps-below_limit).same
        ∙ AreCounted-every finds shows (length x) 0 o x nothing_counted (omega arith) ok few
        ∙ sum_of-nothing (counts (recorded o x))

    -- the transfer that hangs is the one of the recording
    pub hang-found : option_map {U = ℕ × ℕ} (λ (s : StartedTransfer). (s.instant, s.time)) (hang_so_far a.tally)
        ≡ option_map (started_at (recorded o x)) (hang (recorded o x))
    unfolding parts hang
    hang-found =
        ap (λ (a : Tally). option_map {U = ℕ × ℕ} (λ (s : StartedTransfer). (s.instant, s.time))
        (hang_so_far a)) tally-exact
        ∙ ap (option_map {U = ℕ × ℕ} (λ (s : StartedTransfer). (s.instant, s.time)))
        (AreHung-every finds shows (length x) 0 o x nothing_counted (omega arith) ok few)
        ∙ started_at-last_part (recorded o x) (hanging (rows_of (last_part (recorded o x))))
