use Rattle.std.proofs.Common.{◌≡◌, OnOk, ap, subst, sym, ◌∙◌}
use Rattle.vme_trace.specs.Followed.{with_steps}
use Rattle.vme_trace.specs.WellFormed.{malformed_step}
use Rattle.vme_audit_command.specs.DumpAudits.{given_recording}
use Rattle.vme_dump_input.specs.SettledReadings.{settled_so_far}
use Rattle.vme_dump_input.specs.SettledSteps.{ComesOut}
use Rattle.vme_audit_command.proofs.Later.{OnOk-given_more}
use Rattle.vme_audit_command.proofs.Onward.{ExtendsTo-next}
use Rattle.vme_audit_command.proofs.PieceLemmas.{AuditGoesTo-steps, AuditGoesTo-memory}
use Rattle.vme_audit_command.proofs.body.audit_settled.Goals as goal

pub returns-in-Ok-clause-comes : goal.returns-in-Ok-clause-comes
returns-in-Ok-clause-comes g c = λ skew given from h go.
    let t = c.args.auditor.now.recording in
    OnOk-given_more (ComesOut skew c.settled_steps.new.settler (with_steps given c.args.steps.items) c.args.time)
    c.audit_steps.result c.args.auditor.now c.audit_steps.new.auditor c.as_slice.result.now c.audit_steps.ensures.given
    (subst (λ s. ComesOut skew c.settled_steps.new.settler (with_steps given c.args.steps.items) c.args.time
    (with_steps t s)) (sym c.as_slice.ensures.value) (c.in-Ok.ensures.comes skew given t from h go))

pub returns-in-Ok-clause-given : goal.returns-in-Ok-clause-given
returns-in-Ok-clause-given g c = λ skew given from h go.
    let t = c.args.auditor.now.recording in
    subst (λ x. OnOk c.audit_steps.result (c.audit_steps.new.auditor ≡ given_recording c.args.auditor.now x))
    (ap (with_steps t) c.as_slice.ensures.value ∙ c.in-Ok.ensures.settled skew given t from h go)
    c.audit_steps.ensures.given

pub returns-in-Ok-clause-writes : goal.returns-in-Ok-clause-writes
returns-in-Ok-clause-writes g c = λ skew given from h go.
    let t = c.args.auditor.now.recording in
    let on = ExtendsTo-next skew c.args.settler.now given from t h c.args.steps.items c.args.time go in
    let is = ap (with_steps t) c.as_slice.ensures.value ∙ c.in-Ok.ensures.settled skew given t from h go in
    AuditGoesTo-steps c.args.head.now c.args.auditor.now
    (settled_so_far skew c.args.time (with_steps given c.args.steps.items)) c.as_slice.result.now
    (g.O.Sink.writing c.args.out.now) (g.O.Sink.writing c.audit_steps.new.out) c.audit_steps.result is
    (c.audit_steps.ensures.writes (ap malformed_step is ∙ on.formed) on.few)

pub returns-in-Err-clause-writes : goal.returns-in-Err-clause-writes
returns-in-Err-clause-writes g c = λ skew given from h go.
    AuditGoesTo-memory (Unit {0}) c.reading_goes_on.ensures.breaks c.args.head.now c.args.auditor.now
    (settled_so_far skew c.args.time (with_steps given c.args.steps.items)) (g.O.Sink.writing c.args.out.now)
    (ExtendsTo-next skew c.args.settler.now given from c.args.auditor.now.recording h c.args.steps.items c.args.time go)
