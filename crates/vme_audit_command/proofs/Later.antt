-- When an audit is a later state of another one (`IsLater`): an audit by the same rules, of a well-formed recording.
use Rattle.std.proofs.Common.{◌≡◌, ℕ, List, Option, None, Some, IfNone, Result, Ok, Err, OnOk, sym, ap, subst, ◌∙◌}
use Rattle.vme_trace.specs.Followed.{with_steps}
use Rattle.vme_trace.specs.Trace.{Trace}
use Rattle.vme_trace.specs.WellFormed.{malformed_step}
use Rattle.vme_trace.specs.declared.step.Step.{Step}
use Rattle.vme_audit_command.specs.Bodies.{IsLater}
use Rattle.vme_audit_command.specs.DumpAudits.{given_more, given_recording, or_not_written}
use Rattle.vme_audit_command.specs.declared.written_lines.NoOutcome.{NoOutcome}
use Rattle.vme_audit_command.specs.declared.written_lines.WriteFault.{WriteFault}
use Rattle.vme_step_auditor.specs.ReadBy.{GivenSteps}
use Rattle.vme_step_reader.specs.StepReading.{StepReading}

-- what holds anyway holds on success
pub OnOk-any : {A E : Type 0} (P : Type 0) (result : Result A E) → P → OnOk result P
OnOk-any P (Ok x) p = p
OnOk-any P (Err e) p = tt

-- what follows from what holds on a success of writing holds on success
pub OnOk-or_not_written : {A : Type 0} (P Q : Type 0) (written : Result A WriteFault) → (P → Q) → OnOk written P
    → OnOk (or_not_written written) Q
OnOk-or_not_written P Q (Ok x) follows p = follows p
OnOk-or_not_written P Q (Err fault) follows p = tt

-- an audit by the rules of `first` that was given the well-formed recording `t` is a later state of it
pub IsLater-given_recording : (first later : GivenSteps) (t : Trace) → later ≡ given_recording first t
    → malformed_step t ≡ None
    → IsLater first later
IsLater-given_recording first later t is formed = record {
  same = is ∙ ap (given_recording first) (sym (ap (λ (a : GivenSteps). a.recording) is));
  formed = ap (λ (a : GivenSteps). malformed_step a.recording) is ∙ formed;
}

-- a later state of an audit by the rules of `first` is a later state of `first`
pub IsLater-after : (first audit later : GivenSteps) (t : Trace) → audit ≡ given_recording first t
    → IsLater audit later → IsLater first later
IsLater-after first audit later t is l = record {
  same = l.same ∙ ap (λ (a : GivenSteps). given_recording a later.recording) is;
  formed = l.formed;
}

-- if a success gives a later state of an audit by the rules of `first`, it gives a later state of `first`
pub OnOk-IsLater_after : {A : Type 0} (first audit later : GivenSteps) (t : Trace) → audit ≡ given_recording first t
    → (result : Result A NoOutcome) → OnOk result (IsLater audit later) → OnOk result (IsLater first later)
OnOk-IsLater_after first audit later t is (Ok x) l = IsLater-after first audit later t is l
OnOk-IsLater_after first audit later t is (Err e) l = tt

-- if `later` is a later state where the option is `None`, and it is `None`, then `later` is one
pub IsLater-of_none : (audit later : GivenSteps) (going : Option (StepReading × ℕ)) → going ≡ None
    → IfNone going (IsLater audit later) → IsLater audit later
IsLater-of_none audit later going is kept =
    subst (λ (x : Option (StepReading × ℕ)). IfNone x (IsLater audit later)) is kept

-- a later state is one where the option is `None`
pub IfNone-IsLater : (audit later : GivenSteps) (going : Option (StepReading × ℕ)) → IsLater audit later
    → IfNone going (IsLater audit later)
IfNone-IsLater audit later None l = l
IfNone-IsLater audit later (Some x) l = tt

-- if a success gives these steps to the audit, and `P` holds of its recording with them, a success gives a recording of
-- which `P` holds
pub OnOk-given_more : {A E : Type 0} (P : Trace → Type 0) (result : Result A E) (audit later : GivenSteps)
    (steps : List Step)
    → OnOk result (later ≡ given_more audit steps) → P (with_steps audit.recording steps) → OnOk result
    (P later.recording)
OnOk-given_more P (Ok x) audit later steps is p = subst (λ (a : GivenSteps). P a.recording) (sym is) p
OnOk-given_more P (Err e) audit later steps is p = tt
