use Rattle.std.proofs.Common.{◌≡◌, OnOk, ap, subst, ◌∙◌}
use Rattle.vme_trace.specs.Followed.{with_steps}
use Rattle.vme_trace.specs.WellFormed.{malformed_step}
use Rattle.vme_audit_command.specs.DumpAudits.{given_recording}
use Rattle.vme_dump_input.specs.SettledReadings.{settled_whole}
use Rattle.vme_audit_command.proofs.Onward.{ExtendsTo-end}
use Rattle.vme_audit_command.proofs.PieceLemmas.{AuditGoesTo-steps, AuditGoesTo-memory}
use Rattle.vme_audit_command.proofs.body.audit_ended.Goals as goal

pub returns-in-Ok-clause-given : goal.returns-in-Ok-clause-given
returns-in-Ok-clause-given g c = λ skew given from h go.
    let t = c.args.auditor.now.recording in
    subst (λ x. OnOk c.audit_steps.result (c.audit_steps.new.auditor ≡ given_recording c.args.auditor.now x))
    (ap (with_steps t) c.as_slice.ensures.value ∙ c.in-Ok.ensures skew given t from h go) c.audit_steps.ensures.given

pub returns-in-Ok-clause-writes : goal.returns-in-Ok-clause-writes
returns-in-Ok-clause-writes g c = λ skew given from h go.
    let t = c.args.auditor.now.recording in
    let on = ExtendsTo-end skew c.args.settler.now given from t h c.args.steps.items go in
    let is = ap (with_steps t) c.as_slice.ensures.value ∙ c.in-Ok.ensures skew given t from h go in
    AuditGoesTo-steps c.args.head.now c.args.auditor.now (settled_whole skew (with_steps given c.args.steps.items))
    c.as_slice.result.now (g.O.Sink.writing c.args.out.now) (g.O.Sink.writing c.audit_steps.new.out)
    c.audit_steps.result is (c.audit_steps.ensures.writes (ap malformed_step is ∙ on.formed) on.few)

pub returns-in-Err-clause-writes : goal.returns-in-Err-clause-writes
returns-in-Err-clause-writes g c = λ skew given from h go.
    AuditGoesTo-memory (Unit {0}) c.reading_goes_on.ensures.breaks c.args.head.now c.args.auditor.now
    (settled_whole skew (with_steps given c.args.steps.items)) (g.O.Sink.writing c.args.out.now)
    (ExtendsTo-end skew c.args.settler.now given from c.args.auditor.now.recording h c.args.steps.items go)
