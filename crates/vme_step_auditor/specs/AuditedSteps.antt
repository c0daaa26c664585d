-- What was audited of the given steps.
use Rattle.std.specs.Prelude.{◌≡◌, ℕ, ◌-◌, ◌^◌, ◌≤◌, false, List, length, Option, None}
use Rattle.vme_trace.specs.Trace.{Trace}
use Rattle.vme_trace.specs.WellFormed.{malformed_step}
use Rattle.vme_audit.specs.declared.allowance.Allowance.{Allowance}
use Rattle.vme_auditor.specs.Findings.{AreBreakCountsOf}
use Rattle.vme_auditor.specs.declared.findings.BreakCounts.{BreakCounts}
use Rattle.vme_step_auditor.specs.ReadBy.{is_stopped, read_by, stops_by}
use Rattle.vme_step_auditor.specs.Counting.{all_counted, faults_counted}

-- Of the recording `given` only `audited` was audited, and its breaks are counted in `c`. A step has at most one break,
-- and all steps are audited until the counts end the audit. If `given` is well formed, `audited` is what is read of it,
-- `c` are the numbers of breaks of `audited`, and the counts end the audit exactly where the breaks do.
pub record HasAuditedSteps (allowances : List Allowance) (stop : Option ℕ) (given audited : Trace) (c : BreakCounts)
    : Type 0 where
  pub few : all_counted c ≤ length audited.steps
  pub fits : length audited.steps ≤ 2 ^ 64 - 1
  pub all_read : stops_by stop (faults_counted c) ≡ false → audited ≡ given
  pub read : malformed_step given ≡ None → audited ≡ read_by allowances stop given
  pub counted : malformed_step given ≡ None → AreBreakCountsOf c allowances audited
  pub stopped : malformed_step given ≡ None → stops_by stop (faults_counted c) ≡ is_stopped allowances stop given
