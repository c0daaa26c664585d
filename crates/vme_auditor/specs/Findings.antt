-- What an audit found of a recording, and the outcome that follows from it.
use Rattle.std.specs.Prelude.{◌≡◌, List, length}
use Rattle.std.specs.Prelude.{ℕ, ◌+◌, ◌-◌, ◌^◌, not, Option, None, Some, min, nat_lt, option_map}
use Rattle.std.specs.Prelude.{if◌then◌else◌}
use Rattle.std.specs.Option.{option_map_or}
use Rattle.vme_trace.specs.Trace.{Trace, time_at}
use Rattle.vme_trace.specs.declared.rule.Rule.{Rule}
use Rattle.vme_audit.specs.Allowances.{unreadables, wrongs}
use Rattle.vme_audit.specs.AskedRules.{is_asked}
use Rattle.vme_audit.specs.Counted.{counts as counts_of}
use Rattle.vme_audit.specs.Covered.{allowed_count, hang as hang_of, is_judged_part}
use Rattle.vme_audit.specs.Parts.{breaks, last_part}
use Rattle.vme_audit.specs.declared.allowance.Allowance.{Allowance}
use Rattle.vme_audit.specs.declared.outcome.CoverageGap.{CoverageGap}
use Rattle.vme_audit.specs.declared.outcome.CoverageGap.TheVariants.{NeverIdle, NeverIdleBehind, FewAnswers, Hang}
use Rattle.vme_audit.specs.declared.outcome.Outcome.{Outcome}
use Rattle.vme_audit.specs.declared.outcome.Outcome.TheVariants.{Conforming, NotCovered, Broken, Unreadable}
use Rattle.vme_auditor.specs.Breaks.{last_instant_of}
use Rattle.vme_auditor.specs.Events.{asks_by}
use Rattle.vme_auditor.specs.declared.findings.AuditFindings.{AuditFindings}
use Rattle.vme_auditor.specs.declared.findings.BreakCounts.{BreakCounts}

-- the bus was never idle: at all, or after the last break
abbrev pub never_idle_by : Option ℕ → CoverageGap
never_idle_by None = NeverIdle
never_idle_by (Some instant) = NeverIdleBehind instant

-- how many transfers were answered, at most 2^64 - 1
abbrev pub answered_by : AuditFindings → ℕ
answered_by f = min (f.counts.by_dtack + f.counts.by_berr) (2 ^ 64 - 1)

-- a transfer stays without an answer, which started at this instant and time
abbrev pub hang_by : (ℕ × ℕ) → CoverageGap
hang_by at = Hang at.0 at.1

-- why the findings don't cover the recording, if they don't: `wanted` answers are asked for
abbrev pub gap_by : AuditFindings → ℕ → Option CoverageGap
gap_by f wanted =
    if not f.is_judged then Some (never_idle_by f.last_break)
    else if nat_lt (answered_by f) wanted then Some (FewAnswers (answered_by f) wanted)
    else option_map hang_by f.hang

-- the outcome by the findings, the numbers of breaks, and the number of answers that are wanted
abbrev pub outcome_by : AuditFindings → BreakCounts → ℕ → Outcome
outcome_by f breaks wanted =
    if nat_lt 0 breaks.broken then Broken
    else if nat_lt 0 breaks.unreadable then Unreadable
    else option_map_or NotCovered (gap_by f wanted) (Conforming breaks.allowed)

-- the instant in the whole recording, and the time, at which a transfer of the last part starts: `start` is its instant
-- in that part
abbrev pub started_at : Trace → ℕ → (ℕ × ℕ)
started_at t start = ((last_part t).start + start, time_at (last_part t).trace start)

-- `f` are the findings of recording `t`
pub record AreFindingsOf (f : AuditFindings) (t : Trace) : Type 0 where
  pub counts : f.counts ≡ counts_of t
  pub asked : (r : Rule) → asks_by f.events r ≡ is_asked t r
  pub judged : f.is_judged ≡ is_judged_part (last_part t)
  pub last_break : f.last_break ≡ last_instant_of (breaks t)
  pub hang : f.hang ≡ option_map (started_at t) (hang_of t)

-- `c` are the numbers of the breaks of `t`: of those that aren't allowed, by whether they mean that it is wrong or that
-- it can't be read, and of those that are allowed
pub record AreBreakCountsOf (c : BreakCounts) (allowances : List Allowance) (t : Trace) : Type 0 where
  pub broken : c.broken ≡ length (wrongs allowances (breaks t))
  pub unreadable : c.unreadable ≡ length (unreadables allowances (breaks t))
  pub allowed : c.allowed ≡ allowed_count allowances t
