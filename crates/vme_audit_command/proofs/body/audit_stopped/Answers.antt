use Rattle.std.proofs.Common.{◌≡◌, [], None, IfErr, OnOk, true, false, ap, subst, sym, ◌∙◌}
use Rattle.vme_trace.specs.Followed.{with_steps}
use Rattle.vme_trace.specs.WellFormed.{malformed_step}
use Rattle.vme_stream.specs.declared.refusal.Refusal.TheVariants.{BadDump}
use Rattle.vme_step_auditor.specs.ReadBy.{is_stopped}
use Rattle.vme_step_reader.specs.StepReading.{whole_reading}
use Rattle.vme_audit_command.specs.declared.written_lines.NoOutcome.TheVariants.{Refused}
use Rattle.vme_audit_command.specs.Bodies.{IsLater, WritesRest}
use Rattle.vme_audit_command.specs.DumpAudits.{lines_of}
use Rattle.vme_dump_input.specs.SettledReadings.{settled_by, settled_so_far}
use Rattle.vme_audit_command.proofs.Later.{IsLater-given_recording, OnOk-any}
use Rattle.vme_audit_command.proofs.Onward.{fault-stopped, settled_by-stopped, ExtendsTo-stopped, GoOnTo-stopped}
use Rattle.vme_audit_command.proofs.Onward.{ExtendsTo-given, ExtendsTo-next}
use Rattle.vme_audit_command.proofs.PieceLemmas.{WritesRest-cut, WritesRest-fault, WritesRest-memory}
use Rattle.vme_audit_command.proofs.body.audit_stopped.Goals as goal

pub returns-in-Memory-clause-ends : goal.returns-in-Memory-clause-ends
returns-in-Memory-clause-ends g c = λ skew r rest h stops.
    WritesRest-memory (Unit {0}) c.reading_goes_on.ensures.breaks c.args.head.now c.args.auditor.now
    (settled_by skew (whole_reading r rest)) c.args.auditor.now.recording (g.O.Sink.writing c.args.out.now)
    (ExtendsTo-given c.given_is_a_prefix.ensures c.times_go_on.ensures.follows c.times_go_on.ensures.on skew r rest
    c.args.settler.now c.args.auditor.now h)

pub returns-in-Ok-clause-ends : goal.returns-in-Ok-clause-ends
returns-in-Ok-clause-ends g c = λ skew r rest h stops.
    let law = c.times_go_on.ensures in
    let other = c.in_default.not-Memory in
    let audit = c.args.auditor.now in
    let settler = c.args.settler.now in
    let stopped = c.args.stopped in
    let steps = stopped.steps.items in
    let fault = stopped.fault in
    let later = c.audit_settled.new.auditor in
    let from = (whole_reading r []).time in
    let t = settled_so_far skew stopped.time (with_steps r.given steps) in
    let to = GoOnTo-stopped law.follows law.within law.on skew settler audit r h stopped rest stops other in
    let given = c.in-Ok.ensures.given skew r.given from h.comes to in
    let on = ExtendsTo-next skew settler r.given from audit.recording h.comes steps stopped.time to in
    let now : malformed_step later.recording ≡ None = ap (λ a. malformed_step a.recording) given ∙ on.formed in
    subst (λ x. WritesRest {A = Unit {0}} c.args.head.now audit (lines_of c.args.head.now audit)
    (settled_by skew (whole_reading r rest)) x (g.O.Sink.writing c.args.out.now)
    (g.O.Sink.writing c.audit_settled.new.out) c.outcome_at_fault.result) (sym (ap (λ a. a.recording) given))
    (WritesRest-fault c.args.head.now audit (settled_by skew (whole_reading r rest)) (g.O.Sink.writing c.args.out.now)
    (g.O.Sink.writing c.audit_settled.new.out) fault t c.outcome_at_fault.result
    (settled_by-stopped law.follows law.within law.on skew settler audit r h stopped rest stops other)
    (fault-stopped law.follows law.within law.on skew settler audit r h stopped rest stops other) other
    (subst (λ a. OnOk c.outcome_at_fault.result (is_stopped a.allowances a.stop a.recording ≡ true)) given
    (c.outcome_at_fault.ensures.stopped now))
    (subst (λ a. IfErr c.outcome_at_fault.result (λ why. (why ≡ Refused (BadDump fault))
    × (is_stopped a.allowances a.stop a.recording ≡ false))) given (c.outcome_at_fault.ensures.refused now))
    (c.in-Ok.ensures.writes skew r.given from h.comes to))

pub returns-in-Err-clause-ends : goal.returns-in-Err-clause-ends
returns-in-Err-clause-ends g c = λ skew r rest h stops.
    let law = c.times_go_on.ensures in
    let other = c.in_default.not-Memory in
    let audit = c.args.auditor.now in
    let settler = c.args.settler.now in
    let stopped = c.args.stopped in
    let t = settled_so_far skew stopped.time (with_steps r.given stopped.steps.items) in
    let to = GoOnTo-stopped law.follows law.within law.on skew settler audit r h stopped rest stops other in
    WritesRest-cut (Unit {0}) (Unit {0}) c.reading_goes_on.ensures.breaks c.args.head.now audit
    (settled_by skew (whole_reading r rest)) t (g.O.Sink.writing c.args.out.now)
    (g.O.Sink.writing c.audit_settled.new.out) c.in-Err.fault c.audit_settled.new.auditor.recording
    (ExtendsTo-stopped law.follows law.within law.on skew settler audit r h stopped rest stops other)
    (c.in-Err.ensures.writes skew r.given (whole_reading r []).time h.comes to)

pub returns-in-Ok-clause-kept : goal.returns-in-Ok-clause-kept
returns-in-Ok-clause-kept g c = λ skew r rest h stops.
    let law = c.times_go_on.ensures in
    let other = c.in_default.not-Memory in
    let audit = c.args.auditor.now in
    let settler = c.args.settler.now in
    let stopped = c.args.stopped in
    let steps = stopped.steps.items in
    let later = c.audit_settled.new.auditor in
    let from = (whole_reading r []).time in
    let t = settled_so_far skew stopped.time (with_steps r.given steps) in
    let to = GoOnTo-stopped law.follows law.within law.on skew settler audit r h stopped rest stops other in
    let on = ExtendsTo-next skew settler r.given from audit.recording h.comes steps stopped.time to in
    OnOk-any (IsLater audit later) c.outcome_at_fault.result
    (IsLater-given_recording audit later t (c.in-Ok.ensures.given skew r.given from h.comes to) on.formed)
