-- The findings of an audit are those of the definitions.
use Rattle.std.proofs.Common.{◌≡◌, ℕ, ◌-◌, ◌^◌, ◌≤◌, ◌∙◌, ap, subst, arith, None}
use Rattle.std.specs.Option.{option_map}
use Rattle.vme_trace.specs.Trace.{Trace}
use Rattle.vme_trace.specs.WellFormed.{malformed_step}
use Rattle.vme_summary.specs.Runs.{known_run}
use Rattle.vme_auditor.specs.Findings.{AreFindingsOf}
use Rattle.vme_auditor.specs.declared.findings.AuditFindings.{AuditFindings}
use Rattle.vme_auditor.specs.declared.tally.StartedTransfer.{StartedTransfer}
use Rattle.vme_auditor.proofs.Found.{asked-found, counts-found, hang-found, judged-found, last_break-found}
use Rattle.vme_auditor.proofs.auditor.Auditor.audited.Goals as goal

pub returns : goal.returns
unfolding known_run
returns c =
    let i = c.self.inside in
    let few : i.opening.slots ≤ 21 = omega (arith, c.slots.ensures.slots, c.slots.ensures.most) in
    let fits : i.steps ≤ 2 ^ 64 - 1 = omega (arith, c.if-prove-2.false) in
    let finds = c.first_break_is_found.ensures in
    let found : AuditFindings = record {
      counts = c.counts.result;
      events = i.audit.events;
      is_judged = c.have_started.result;
      last_break = i.audit.last_break;
      hang = c.start_of.result;
    } in
    subst (λ (t : Trace). malformed_step t ≡ None → AreFindingsOf found t) c.self.view_is
    (λ ok. record {
      counts =
          c.counts.ensures
          ∙ counts-found finds i.opening i.taken.items i.steps i.view i.audit c.self.invariant ok few
          c.marks_are_found.ensures fits;
      asked = λ r. asked-found finds i.opening i.taken.items i.steps i.view i.audit c.self.invariant ok few
          (λ t ok few. c.known_over_recordings.ensures.started t ok few) r;
      judged =
          c.have_started.ensures
          ∙ judged-found finds i.opening i.taken.items i.steps i.view i.audit c.self.invariant ok few
          (λ t ok few. c.known_over_recordings.ensures.started t ok few);
      last_break = last_break-found finds i.opening i.taken.items i.steps i.view i.audit c.self.invariant ok few;
      hang =
          c.start_of.ensures
          ∙ ap (option_map {U = ℕ × ℕ} (λ (s : StartedTransfer). (s.instant, s.time))) c.hang.ensures
          ∙ hang-found finds i.opening i.taken.items i.steps i.view i.audit c.self.invariant ok few
          c.marks_are_found.ensures fits;
    })
