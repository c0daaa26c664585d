-- The outcome by the findings of an audit is that of the definitions.
use Rattle.std.proofs.Common.{◌≡◌, ℕ, suc, ◌-◌, ◌^◌, ◌<◌, ◌≤◌, Bool, true, false, not, List, [], ◌∷◌, length, refl, ◌∙◌}
use Rattle.std.proofs.Common.{ap, arith, cond, Option, None, Some}
use Rattle.std.specs.Prelude.{min, nat_lt}
use Rattle.std.specs.Option.{option_map, option_map_or}
use Rattle.std.proofs.lemmas.Bool.{le-ltb, lt-ltb, ltb-false, ltb-true}
use Rattle.vme_trace.specs.Trace.{Trace}
use Rattle.vme_trace.specs.declared.verdict.Break.{Break}
use Rattle.vme_audit.specs.Allowances.{unreadables, wrongs}
use Rattle.vme_audit.specs.Covered.{allowed_count, any_of, gap, hang, hang_from, never_idle, outcome}
use Rattle.vme_audit.specs.Covered.{answered}
use Rattle.vme_audit.specs.Parts.{breaks, last_part}
use Rattle.vme_audit.specs.declared.allowance.Allowance.{Allowance}
use Rattle.vme_audit.specs.declared.outcome.CoverageGap.{CoverageGap}
use Rattle.vme_audit.specs.declared.outcome.CoverageGap.TheVariants.{FewAnswers}
use Rattle.vme_audit.specs.declared.outcome.Outcome.TheVariants.{Broken, Conforming, NotCovered, Unreadable}
use Rattle.vme_auditor.specs.Breaks.{last_instant_of}
use Rattle.vme_auditor.specs.Findings.{AreBreakCountsOf, AreFindingsOf, gap_by, hang_by, never_idle_by}
use Rattle.vme_auditor.specs.Findings.{outcome_by, started_at}
use Rattle.vme_auditor.specs.declared.findings.AuditFindings.{AuditFindings}
use Rattle.vme_auditor.specs.declared.findings.BreakCounts.{BreakCounts}

-- the outcome by findings and counts of breaks, case by case
module _ (f : AuditFindings) (c : BreakCounts) (wanted : ℕ) where
  -- the outcome is `Broken` if a break means that the recording is wrong
  pub outcome_by-broken : 0 < c.broken → Broken ≡ outcome_by f c wanted
  outcome_by-broken h = rw (lt-ltb 0 c.broken h) refl

  -- the outcome is `Unreadable` if no break means that the recording is wrong, and one that it can't be read
  pub outcome_by-unreadable : c.broken ≤ 0 → 0 < c.unreadable → Unreadable ≡ outcome_by f c wanted
  outcome_by-unreadable none h = rw (le-ltb 0 c.broken none, lt-ltb 0 c.unreadable h) refl

  -- if all breaks are allowed, the outcome depends on the gap, and without one the recording conforms
  pub outcome_by-gap : c.broken ≤ 0 → c.unreadable ≤ 0 → (gap : Option CoverageGap) → gap ≡ gap_by f wanted
      → option_map_or NotCovered gap (Conforming c.allowed) ≡ outcome_by f c wanted
  outcome_by-gap none no_more gap e =
      rw (le-ltb 0 c.broken none, le-ltb 0 c.unreadable no_more)
      (ap (λ (gap : Option CoverageGap). option_map_or NotCovered gap (Conforming c.allowed)) e)

-- there is a break exactly if the number of breaks is over 0
any_of-length : (bs : List Break) → nat_lt 0 (length bs) ≡ any_of bs
any_of-length [] = refl
any_of-length (b ∷ bs) = lt-ltb 0 (suc (length bs)) (omega arith)

-- the gap "never idle" by the last instant of the breaks is that by the breaks
never_idle_by-last_instant : (bs : List Break) → never_idle_by (last_instant_of bs) ≡ never_idle bs
never_idle_by-last_instant [] = refl
never_idle_by-last_instant (b ∷ []) = refl
never_idle_by-last_instant (b ∷ c ∷ bs) = never_idle_by-last_instant (c ∷ bs)

-- comparing a saturated sum with a number of 64 bits has the same result as comparing the exact sum
few_answers-saturated : (answers wanted : ℕ) (other : Option CoverageGap) → wanted ≤ 2 ^ 64 - 1
    → cond (nat_lt (min answers (2 ^ 64 - 1)) wanted) (Some (FewAnswers (min answers (2 ^ 64 - 1)) wanted)) other
    ≡ cond (nat_lt answers wanted) (Some (FewAnswers answers wanted)) other
few_answers-saturated answers wanted other fits = by_test (nat_lt answers wanted) refl
  where
    by_test : (b : Bool) → nat_lt answers wanted ≡ b
        → cond (nat_lt (min answers (2 ^ 64 - 1)) wanted) (Some (FewAnswers (min answers (2 ^ 64 - 1)) wanted)) other
        ≡ cond b (Some (FewAnswers answers wanted)) other
    by_test true e =
        let few = ltb-true answers wanted e in
        let same : min answers (2 ^ 64 - 1) ≡ answers = omega arith in
        rw (same, e) refl
    by_test false e =
        let enough = ltb-false answers wanted e in
        let still : wanted ≤ min answers (2 ^ 64 - 1) = omega arith in
        rw (le-ltb (min answers (2 ^ 64 - 1)) wanted still) refl

-- the gap of a hang by its start in the recording is that by its start in the last part
hang_from-last_part : (t : Trace) (h : Option ℕ) → option_map hang_by (option_map (started_at t) h)
    ≡ option_map (hang_from (last_part t)) h
hang_from-last_part t None = refl
hang_from-last_part t (Some start) = refl

module _ (f : AuditFindings) (t : Trace) (found : AreFindingsOf f t) (wanted : ℕ) (fits : wanted ≤ 2 ^ 64 - 1) where
  -- the gap by the findings is that of the recording
  gap_by-findings : gap_by f wanted ≡ gap wanted t
  unfolding gap
  gap_by-findings =
      few_or (not f.is_judged) (answered f.counts) (Some (never_idle_by f.last_break)) (option_map hang_by f.hang)
      ∙ rw (
        found.judged,
        found.last_break,
        found.counts,
        found.hang,
        never_idle_by-last_instant (breaks t),
        hang_from-last_part t (hang t),
      ) refl
    where
      few_or : (b : Bool) (answers : ℕ) (first other : Option CoverageGap)
          → cond b first (cond (nat_lt (min answers (2 ^ 64 - 1)) wanted)
          (Some (FewAnswers (min answers (2 ^ 64 - 1)) wanted)) other)
          ≡ cond b first (cond (nat_lt answers wanted) (Some (FewAnswers answers wanted)) other)
      few_or b answers first other = ap (cond b first) (few_answers-saturated answers wanted other fits)

  -- the outcome by the findings and the counts of breaks is that of the recording
  pub outcome_by-findings : (c : BreakCounts) (allowances : List Allowance) → AreBreakCountsOf c allowances t
      → outcome_by f c wanted ≡ outcome allowances wanted t
  unfolding outcome
  outcome_by-findings c allowances counted =
      rw (
        counted.broken,
        counted.unreadable,
        counted.allowed,
        any_of-length (wrongs allowances (breaks t)),
        any_of-length (unreadables allowances (breaks t)),
      )
      (ap (λ (gap : Option CoverageGap). cond (any_of (wrongs allowances (breaks t))) Broken
      (cond (any_of (unreadables allowances (breaks t))) Unreadable
      (option_map_or NotCovered gap (Conforming (allowed_count allowances t))))) gap_by-findings)
