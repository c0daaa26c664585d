use Rattle.std.proofs.Common.{◌≤◌, subst, sym}
use Rattle.vme_audit_command.proofs.BodyLemmas.{lines_of-next_step, formed-next_step, given_more-next_step}
use Rattle.vme_audit_command.proofs.BodyLemmas.{AuditGoesOn-unwritten}
use Rattle.vme_audit_command.proofs.written_lines.audit_steps.Goals as goal

pub loop-step-preserved : goal.loop-step-preserved
loop-step-preserved g c =
    let first = c.args.auditor.now in
    let audit = c.loop-step.auditor in
    let later = c.audit_step.new.auditor in
    let steps = c.args.steps.now in
    let i = c.loop-step.step-index in
    let step = c.step-item.result in
    let so_far = c.loop-step.invariant.given in
    let given = c.in-Ok.ensures.given in
    record {
      given = given_more-next_step first audit later steps i step so_far given c.loop-step-test.true c.step-item.is;
      writes = λ formed few.
          let here = formed-next_step first audit later steps i step so_far c.loop-step-test.true c.step-item.is
          formed in
          let small : audit.recording.opening.slots ≤ 21 = subst (λ a. a.recording.opening.slots ≤ 21) (sym so_far)
          few in
          lines_of-next_step c.args.head.now first audit later step (g.O.Sink.writing c.args.out.now)
          (g.O.Sink.writing c.loop-step.out) (g.O.Sink.writing c.audit_step.new.out) given
          (c.loop-step.invariant.writes formed few) (c.in-Ok.ensures.writes here small);
    }

pub returns-in-Err-clause-writes : goal.returns-in-Err-clause-writes
returns-in-Err-clause-writes g c =
    let first = c.args.auditor.now in
    let audit = c.loop-step.auditor in
    let steps = c.args.steps.now in
    let i = c.loop-step.step-index in
    let step = c.step-item.result in
    let so_far = c.loop-step.invariant.given in
    λ formed few.
    let here = formed-next_step first audit c.audit_step.new.auditor steps i step so_far c.loop-step-test.true
    c.step-item.is
    formed in
    let small : audit.recording.opening.slots ≤ 21 = subst (λ a. a.recording.opening.slots ≤ 21) (sym so_far) few in
    AuditGoesOn-unwritten (Unit {0}) (Unit {0}) c.reading_goes_on.ensures.breaks c.args.head.now first audit steps i
    step
    (g.O.Sink.writing c.args.out.now) (g.O.Sink.writing c.loop-step.out) (g.O.Sink.writing c.audit_step.new.out)
    c.in-Err.fault so_far c.loop-step-test.true c.step-item.is formed few (c.loop-step.invariant.writes formed few)
    (c.in-Err.ensures.writes here small)
