-- What is read was audited.
use Rattle.std.proofs.Common.{◌≡◌, subst, sym, None}
use Rattle.vme_trace.specs.Trace.{Trace}
use Rattle.vme_trace.specs.WellFormed.{malformed_step}
use Rattle.vme_auditor.specs.Findings.{AreFindingsOf}
use Rattle.vme_step_auditor.specs.ReadBy.{GivenSteps, read_of}
use Rattle.vme_step_auditor.proofs.ReadOn.{well_formed-read}
use Rattle.vme_step_auditor.proofs.step_auditor.StepAuditor.audited.Goals as goal

pub returns : goal.returns
returns c =
    let i = c.self.inside in
    let given : Trace = record { opening = i.opening; steps = i.given.items } in
    subst (λ (g : GivenSteps). malformed_step g.recording ≡ None → AreFindingsOf c.audited.result (read_of g))
    c.self.view_is
    (λ ok.
    let read = c.self.invariant.read ok in
    let sound = subst (λ (t : Trace). malformed_step t ≡ None) (sym read)
    (well_formed-read i.rules.allowances.now i.rules.stop given ok) in
    subst (AreFindingsOf c.audited.result) read (c.audited.ensures sound))
