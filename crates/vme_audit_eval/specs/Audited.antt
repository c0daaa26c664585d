-- A worked recording, and the results that its audit should have.
use Rattle.std.specs.Prelude.{◌≡◌, ℕ, List, None, map, filter}
use Rattle.vme_trace.specs.Rules.{all_rules}
use Rattle.vme_trace.specs.Trace.{Trace}
use Rattle.vme_trace.specs.WellFormed.{malformed_step}
use Rattle.vme_trace.specs.declared.rule.Rule.{Rule}
use Rattle.vme_trace.specs.declared.verdict.Break.{Break}
use Rattle.vme_audit.specs.AskedRules.{is_asked}
use Rattle.vme_audit.specs.Counted.{counts}
use Rattle.vme_audit.specs.Covered.{outcome}
use Rattle.vme_audit.specs.Parts.{Part, breaks, parts}
use Rattle.vme_audit.specs.declared.allowance.Allowance.{Allowance}
use Rattle.vme_audit.specs.declared.counts.Counts.{Counts}
use Rattle.vme_audit.specs.declared.outcome.Outcome.{Outcome}

-- the instants at which the parts of a recording start
abbrev pub starts_of : Trace → List ℕ
starts_of t = map (λ (p : Part). p.start) (parts t)

-- a recording, the allowed deviations, the number of answered transfers required, and the results of its audit
pub record Audited : Type 0 where
  pub trace : Trace
  pub allowances : List Allowance
  pub wanted : ℕ
  pub starts : List ℕ
  pub breaks : List Break
  pub counts : Counts
  pub outcome : Outcome

-- the recording is well formed, and its audit has these results by the definitions
pub record AuditAgrees (r : Audited) : Type 0 where
  pub well_formed : malformed_step r.trace ≡ None
  pub starts : starts_of r.trace ≡ r.starts
  pub breaks : breaks r.trace ≡ r.breaks
  pub counts : counts r.trace ≡ r.counts
  pub outcome : outcome r.allowances r.wanted r.trace ≡ r.outcome

-- a recording and the rules that it should ask
pub record Asking : Type 0 where
  pub trace : Trace
  pub asked : List Rule

pub record AskingAgrees (r : Asking) : Type 0 where
  pub well_formed : malformed_step r.trace ≡ None
  pub asked : filter (is_asked r.trace) all_rules ≡ r.asked
