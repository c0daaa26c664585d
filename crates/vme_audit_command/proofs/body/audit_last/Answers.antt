use Rattle.std.proofs.Common.{◌≡◌, []}
use Rattle.vme_trace.specs.Followed.{with_steps}
use Rattle.vme_step_reader.specs.StepReading.{whole_reading}
use Rattle.vme_audit_command.specs.Bodies.{IsLater}
use Rattle.vme_audit_command.specs.DumpAudits.{given_recording}
use Rattle.vme_dump_input.specs.SettledReadings.{settled_by, settled_whole}
use Rattle.vme_audit_command.proofs.Later.{IsLater-given_recording, OnOk-or_not_written}
use Rattle.vme_audit_command.proofs.Onward.{GoOnFrom-last, settled_by-last, ExtendsTo-last, ExtendsTo-end}
use Rattle.vme_audit_command.proofs.PieceLemmas.{WritesRest-end}
use Rattle.vme_audit_command.proofs.body.audit_last.Goals as goal

pub returns-in-Err-clause-ends : goal.returns-in-Err-clause-ends
returns-in-Err-clause-ends g c = λ skew h.
    c.audit_stopped.ensures.ends skew c.args.reader c.args.bytes.now h c.in-Err.ensures.stopped

pub returns-in-Err-clause-kept : goal.returns-in-Err-clause-kept
returns-in-Err-clause-kept g c = λ skew h.
    c.audit_stopped.ensures.kept skew c.args.reader c.args.bytes.now h c.in-Err.ensures.stopped

pub returns-in-Ok-clause-kept : goal.returns-in-Ok-clause-kept
returns-in-Ok-clause-kept g c = λ skew h.
    let law = c.times_go_on.ensures in
    let r = c.args.reader in
    let audit = c.args.auditor.now in
    let settler = c.args.settler.now in
    let steps = c.in-Ok.steps.items in
    let from = (whole_reading r []).time in
    let t = settled_whole skew (with_steps r.given steps) in
    let later = c.audit_ended.new.auditor in
    let last = GoOnFrom-last law.follows law.within law.on skew settler audit r h c.args.bytes.now steps
    c.in-Ok.ensures.recorded in
    let on = ExtendsTo-end skew settler r.given from audit.recording h.comes steps last in
    rw c.or_not_written.ensures
    (OnOk-or_not_written (later ≡ given_recording audit t) (IsLater audit later) c.audit_ended.result
    (λ given. IsLater-given_recording audit later t given on.formed)
    (c.audit_ended.ensures.given skew r.given from h.comes last))

pub returns-in-Ok-clause-ends : goal.returns-in-Ok-clause-ends
returns-in-Ok-clause-ends g c = λ skew h.
    let law = c.times_go_on.ensures in
    let r = c.args.reader in
    let bytes = c.args.bytes.now in
    let audit = c.args.auditor.now in
    let settler = c.args.settler.now in
    let steps = c.in-Ok.steps.items in
    let from = (whole_reading r []).time in
    let recorded = c.in-Ok.ensures.recorded in
    let whole = c.in-Ok.ensures.whole in
    let last = GoOnFrom-last law.follows law.within law.on skew settler audit r h bytes steps recorded in
    rw c.or_not_written.ensures
    (WritesRest-end c.reading_goes_on.ensures.breaks c.args.head.now audit c.audit_ended.new.auditor
    (settled_by skew (whole_reading r bytes)) (settled_whole skew (with_steps r.given steps))
    (g.O.Sink.writing c.args.out.now) (g.O.Sink.writing c.audit_ended.new.out) c.audit_ended.result
    (ExtendsTo-last law.follows law.within law.on skew settler audit r h bytes steps recorded whole)
    (settled_by-last law.follows law.within law.on skew settler audit r h bytes steps recorded whole) whole
    (c.audit_ended.ensures.given skew r.given from h.comes last)
    (c.audit_ended.ensures.writes skew r.given from h.comes last))
