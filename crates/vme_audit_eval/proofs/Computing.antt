-- What is unfolded to compute an audit, besides what a verdict and a listing need; and an audit whose results are
-- computed.
use Rattle.std.specs.Prelude.{◌≡◌, ℕ, None}
use Rattle.vme_trace.specs.WellFormed.{malformed_step}
use Rattle.vme_audit.specs.Allowances.{is_allowed, stopped_at}
use Rattle.vme_audit.specs.AskedRules.{asks, asks_in, happens, is_asked}
use Rattle.vme_audit.specs.Counted.{counts, counts_of_rows}
use Rattle.vme_audit.specs.Covered.{gap, hang, is_judged_part, outcome}
use Rattle.vme_audit.specs.Parts.{breaks, own_break, parts, parts_from}
use Rattle.vme_audit_eval.specs.Audited.{Audited, AuditAgrees, starts_of}

-- a name for what is unfolded to compute the parts, the breaks and the outcome of a recording; its value means nothing
unfoldable pub audits : ℕ
unfolding outcome gap hang is_judged_part counts_of_rows is_allowed stopped_at own_break parts parts_from
audits = 0

-- a name for what is unfolded to compute which rules a recording asks; its value means nothing
unfoldable pub asked : ℕ
unfolding is_asked asks asks_in happens own_break parts parts_from
asked = 0

-- an audit agrees with the results beside it if each of them is that of the definitions
pub computed : (r : Audited) → malformed_step r.trace ≡ None → starts_of r.trace ≡ r.starts
    → breaks r.trace ≡ r.breaks → counts r.trace ≡ r.counts → outcome r.allowances r.wanted r.trace ≡ r.outcome
    → AuditAgrees r
computed r well_formed starts found counted ends =
    record { well_formed = well_formed; starts = starts; breaks = found; counts = counted; outcome = ends }
