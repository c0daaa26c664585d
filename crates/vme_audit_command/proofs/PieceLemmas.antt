-- A piece of a body, and the end of a body.
use Rattle.std.proofs.Common.{◌≡◌, ◌≤◌, ℕ, List, [], ◌++◌, Bool, true, false, if◌then◌else◌, Option, None, Some, Result}
use Rattle.std.proofs.Common.{Ok, Err}
use Rattle.std.proofs.Common.{IfErr, OnOk, sym, ap, subst, ◌∙◌, append_assoc, refl}
use Rattle.std.proofs.Common.{flat_map}
use Rattle.vme_trace.specs.Followed.{with_steps}
use Rattle.vme_trace.specs.Streams.{Writing}
use Rattle.vme_trace.specs.Trace.{Trace}
use Rattle.vme_trace.specs.WellFormed.{malformed_step}
use Rattle.vme_trace.specs.declared.step.Step.{Step}
use Rattle.vcd_read.specs.declared.fault.FaultKind.{FaultKind}
use Rattle.vcd_read.specs.declared.fault.FaultKind.TheVariants as vcd
use Rattle.vcd_read.specs.declared.fault.VcdFault.{VcdFault}
use Rattle.vme_bind.specs.TextReading.{TextReading}
use Rattle.vme_stream.specs.Outputs.{Writes}
use Rattle.vme_stream.specs.Refusals.{dump_refusal}
use Rattle.vme_stream.specs.declared.refusal.Refusal.{Refusal}
use Rattle.vme_stream.specs.declared.refusal.Refusal.TheVariants.{BadDump}
use Rattle.vme_stream.proofs.OutputLemmas.{FailsToWrite-after, FailsToWrite-longer, Writes-append, Writes-nothing}
use Rattle.vme_audit.specs.Parts.{breaks}
use Rattle.vme_audit.specs.declared.allowance.Allowance.{Allowance}
use Rattle.vme_audit_command.specs.Bodies.{WritesRest, WritesUntil, ended_at}
use Rattle.vme_audit_command.specs.DumpAudits.{AuditGoesOn, AuditGoesTo, GoesOn, break_lines, given_recording}
use Rattle.vme_audit_command.specs.DumpAudits.{line_of_break, lines_of, or_not_written}
use Rattle.vme_step_auditor.specs.ReadBy.{GivenSteps, is_stopped, read_by}
use Rattle.vme_audit_command.specs.declared.written_lines.NoOutcome.{NoOutcome}
use Rattle.vme_audit_command.specs.declared.written_lines.NoOutcome.TheVariants.{CannotRead, NotWritten, Refused}
use Rattle.vme_audit_command.specs.declared.written_lines.WriteFault.{WriteFault}
use Rattle.vme_audit_command.specs.declared.written_lines.WriteFault.TheVariants.{CannotWrite, Memory}
use Rattle.vme_audit_command.proofs.BodyLemmas.{ReadGoesOn, break_lines-with_steps, AuditGoesOn-no_memory}
use Rattle.vme_audit_command.proofs.Onward.{ExtendsTo}
use Rattle.vme_audit_command.proofs.WriteLemmas.{WritesPrefix-after, WritesPrefix-longer}
use Rattle.vme_audit_command.proofs.WriteLemmas.{WritesPrefix-whole}

-- ---- one part of a body after another

-- if x was written first, and y until the body ends with this result, both were written until it does
pub WritesUntil-after_text : {A : Type 0} (ended : Result Trace Refusal) (a : Trace) (u v w : Writing) (x y : List ℕ)
    (result : Result A NoOutcome) → Writes u v x → WritesUntil ended a v w y result
    → WritesUntil ended a u w (x ++ y) result
WritesUntil-after_text ended a u v w x y (Ok _) one two = (Writes-append u v w x y one two.0, two.1)
WritesUntil-after_text ended a u v w x y (Err (Refused refusal)) one two = (Writes-append u v w x y one two.0, two.1)
WritesUntil-after_text ended a u v w x y (Err CannotRead) one two = WritesPrefix-after u v w x y one two
WritesUntil-after_text ended a u v w x y (Err (NotWritten CannotWrite)) one two = FailsToWrite-after u v w x y one two
WritesUntil-after_text ended a u v w x y (Err (NotWritten Memory)) one two = WritesPrefix-after u v w x y one two

-- if `more` was written first, and the rest after it until the body ends, the rest with `more` was written until it
-- does
pub WritesRest-after_text : {A : Type 0} (head : List ℕ) (audit : GivenSteps) (told more : List ℕ)
    (reading : TextReading)
    (t : Trace) (u v w : Writing) (result : Result A NoOutcome) → Writes u v more
    → WritesRest head audit (told ++ more) reading t v w result → WritesRest head audit told reading t u w result
WritesRest-after_text head audit told more reading t u v w result one two =
    let (text, same, until) = two in
    (more ++ text, same ∙ append_assoc told more text, WritesUntil-after_text _ _ u v w more text result one until)

-- ---- steps before the end of a body

-- not all lines of the steps were written: a prefix of all lines is
pub WritesUntil-unwritten : (A B : Type 0) (ended : Result Trace Refusal) (a : Trace) (before after all later : List ℕ)
    (u v : Writing) (fault : WriteFault) → GoesOn {A = A} before after u v (Err fault) → all ≡ after ++ later
    → (text : List ℕ) × (all ≡ before ++ text) × WritesUntil {A = B} ended a u v text (Err (NotWritten fault))
WritesUntil-unwritten A B ended a before after all later u v CannotWrite goes more =
    let (text, same, fails) = goes in (
      text ++ later,
      more ∙ ap (λ (l : List ℕ). l ++ later) same ∙ append_assoc before text later,
      FailsToWrite-longer u v text later fails,
    )
WritesUntil-unwritten A B ended a before after all later u v Memory goes more =
    let (text, same, some) = goes in (
      text ++ later,
      more ∙ ap (λ (l : List ℕ). l ++ later) same ∙ append_assoc before text later,
      WritesPrefix-longer u v text later some,
    )

-- memory runs out before the end of a body
pub WritesRest-memory : (A : Type 0) → ReadGoesOn
    → (head : List ℕ) (audit : GivenSteps) (reading : TextReading) (t : Trace)
    (w : Writing) → ExtendsTo audit.recording reading.recorded
    → WritesRest {A = A} head audit (lines_of head audit) reading t w w (Err (NotWritten Memory))
WritesRest-memory A law head audit reading t w on =
    let here : malformed_step (with_steps audit.recording on.more) ≡ None = sym (ap malformed_step on.is) ∙ on.formed in
    let (text, same) = break_lines-with_steps law head audit.allowances audit.stop audit.recording on.more here on.few
    in (
      text,
      ap (break_lines audit.allowances audit.stop head) on.is ∙ same,
      WritesPrefix-longer w w [] text (WritesPrefix-whole w w [] (Writes-nothing w)),
    )

-- ---- steps that come out

-- if the lines of the steps were written, and `t` is the recording with these steps, the lines up to `t` were written
pub AuditGoesTo-steps : {A : Type 0} (head : List ℕ) (audit : GivenSteps) (t : Trace) (steps : List Step)
    (u v : Writing)
    (result : Result A WriteFault) → with_steps audit.recording steps ≡ t
    → AuditGoesOn head audit steps u v result → AuditGoesTo head audit t u v result
AuditGoesTo-steps head audit t steps u v result is goes =
    subst (λ (x : Trace). AuditGoesTo head audit x u v result) is goes

-- memory runs out before the steps
pub AuditGoesTo-memory : (A : Type 0) → ReadGoesOn → (head : List ℕ) (audit : GivenSteps) (t : Trace) (w : Writing)
    → ExtendsTo audit.recording t → AuditGoesTo {A = A} head audit t w w (Err Memory)
AuditGoesTo-memory A law head audit t w on =
    AuditGoesTo-steps {A = A} head audit t on.more w w (Err Memory) (sym on.is)
    (AuditGoesOn-no_memory A law head audit on.more w (sym (ap malformed_step on.is) ∙ on.formed) on.few)

-- not all lines of the steps were written
pub WritesRest-cut : (A B : Type 0) → ReadGoesOn
    → (head : List ℕ) (audit : GivenSteps) (reading : TextReading) (t : Trace)
    (u v : Writing) (fault : WriteFault) (x : Trace) → ExtendsTo t reading.recorded
    → AuditGoesTo {A = A} head audit t u v (Err fault)
    → WritesRest {A = B} head audit (lines_of head audit) reading x u v (Err (NotWritten fault))
WritesRest-cut A B law head audit reading t u v fault x on goes =
    let here : malformed_step (with_steps t on.more) ≡ None = sym (ap malformed_step on.is) ∙ on.formed in
    let (later, grown) = break_lines-with_steps law head audit.allowances audit.stop t on.more here on.few in
    let all = ap (break_lines audit.allowances audit.stop head) on.is ∙ grown in
    WritesUntil-unwritten A B (ended_at audit.allowances audit.stop reading.recorded reading.fault)
    (read_by audit.allowances audit.stop x) (lines_of head audit) (lines_of head (given_recording audit t))
    (break_lines audit.allowances audit.stop head reading.recorded) later u v fault goes all

-- all lines of a dump were written
WritesRest-whole : (head : List ℕ) (audit : GivenSteps) (reading : TextReading) (t : Trace) (u v : Writing)
    → reading.recorded ≡ t → reading.fault ≡ None → AuditGoesTo {A = Unit {0}} head audit t u v (Ok tt)
    → WritesRest {A = Unit {0}} head audit (lines_of head audit) reading t u v (Ok tt)
WritesRest-whole head audit reading t u v is whole goes =
    let (text, grown, writes) = goes in (
      text,
      ap (break_lines audit.allowances audit.stop head) is ∙ grown,
      (
        writes,
        ap (λ (f : Option VcdFault). ended_at audit.allowances audit.stop reading.recorded f) whole
            ∙ ap (λ (r : Trace). Ok (read_by audit.allowances audit.stop r)) is,
      ),
    )

-- the steps up to the end of a dump were audited, and their lines written, or not all of them
pub WritesRest-end : ReadGoesOn → (head : List ℕ) (audit later : GivenSteps) (reading : TextReading) (t : Trace)
    (u v : Writing) (written : Result (Unit {0}) WriteFault) → ExtendsTo t reading.recorded → reading.recorded ≡ t
    → reading.fault ≡ None → OnOk written (later ≡ given_recording audit t)
    → AuditGoesTo {A = Unit {0}} head audit t u v written
    → WritesRest {A = Unit {0}} head audit (lines_of head audit) reading later.recording u v (or_not_written written)
WritesRest-end law head audit later reading t u v (Ok x) on is whole given goes =
    subst (λ (a : GivenSteps). WritesRest {A = Unit {0}} head audit (lines_of head audit) reading a.recording u v
    (Ok tt)) (sym given) (WritesRest-whole head audit reading t u v is whole goes)
WritesRest-end law head audit later reading t u v (Err fault) on is whole given goes =
    WritesRest-cut (Unit {0}) (Unit {0}) law head audit reading t u v fault later.recording on goes

-- ---- a fault

-- a fault that isn't want of memory is refused as a bad dump
dump_refusal-not_memory : (line : ℕ) (kind : FaultKind) → (kind ≡ vcd.Memory → ⊥)
    → dump_refusal (record { line = line; kind = kind }) ≡ BadDump (record { line = line; kind = kind })
dump_refusal-not_memory line vcd.Memory other = absurd (other refl)
dump_refusal-not_memory line kind other = refl

-- an audit that stopped before a fault ends with the recording as far as it is audited
ended_at-stopped_before : (allowances : List Allowance) (stop : Option ℕ) (t : Trace) (fault : VcdFault)
    → is_stopped allowances stop t ≡ true → ended_at allowances stop t (Some fault) ≡ Ok (read_by allowances stop t)
ended_at-stopped_before allowances stop t fault stopped =
    ap (λ (b : Bool). if b then Ok (read_by allowances stop t) else Err (dump_refusal fault)) stopped

-- an audit that didn't stop before a fault, other than want of memory, ends with a bad dump
ended_at-refused : (allowances : List Allowance) (stop : Option ℕ) (t : Trace) (fault : VcdFault)
    → is_stopped allowances stop t ≡ false → (fault.kind ≡ vcd.Memory → ⊥)
    → ended_at allowances stop t (Some fault) ≡ Err (BadDump fault)
ended_at-refused allowances stop t fault stopped other =
    ap (λ (b : Bool). if b then Ok (read_by allowances stop t) else Err (dump_refusal fault)) stopped
    ∙ ap Err (dump_refusal-not_memory fault.line fault.kind other)

-- the end of a body with this fault
ended_at-fault : (audit : GivenSteps) (reading : TextReading) (t : Trace) (fault : VcdFault) → reading.recorded ≡ t
    → reading.fault ≡ Some fault → ended_at audit.allowances audit.stop reading.recorded reading.fault
    ≡ ended_at audit.allowances audit.stop t (Some fault)
ended_at-fault audit reading t fault is faulty =
    ap (λ (f : Option VcdFault). ended_at audit.allowances audit.stop reading.recorded f) faulty
    ∙ ap (λ (r : Trace). ended_at audit.allowances audit.stop r (Some fault)) is

-- a body ends with a fault, or the audit stops before it
pub WritesRest-fault : (head : List ℕ) (audit : GivenSteps) (reading : TextReading) (u v : Writing) (fault : VcdFault)
    (t : Trace) (result : Result (Unit {0}) NoOutcome)
    → reading.recorded ≡ t → reading.fault ≡ Some fault → (fault.kind ≡ vcd.Memory → ⊥)
    → OnOk result (is_stopped audit.allowances audit.stop t ≡ true)
    → IfErr result (λ why. (why ≡ Refused (BadDump fault)) × (is_stopped audit.allowances audit.stop t ≡ false))
    → AuditGoesTo {A = Unit {0}} head audit t u v (Ok tt)
    → WritesRest {A = Unit {0}} head audit (lines_of head audit) reading t u v result
WritesRest-fault head audit reading u v fault t (Ok x) is faulty other stopped refused goes =
    let (text, grown, writes) = goes in (
      text,
      ap (break_lines audit.allowances audit.stop head) is ∙ grown,
      (
        writes,
        ended_at-fault audit reading t fault is faulty
            ∙ ended_at-stopped_before audit.allowances audit.stop t fault stopped,
      ),
    )
WritesRest-fault head audit reading u v fault t (Err why) is faulty other stopped refused goes =
    let (text, grown, writes) = goes in
    let ended = ended_at-fault audit reading t fault is faulty
    ∙ ended_at-refused audit.allowances audit.stop t fault refused.1 other in
    subst (λ (e : NoOutcome). WritesRest {A = Unit {0}} head audit (lines_of head audit) reading t u v (Err e))
    (sym refused.0)
    (text, ap (break_lines audit.allowances audit.stop head) is ∙ grown, (writes, ended))

-- ---- a stop

-- once an audit stops, it stays stopped when steps are added
abbrev pub StopStays : Type 0
StopStays = (allowances : List Allowance) (stop : Option ℕ) (t : Trace) (steps : List Step)
    → malformed_step (with_steps t steps) ≡ None → t.opening.slots ≤ 21 → is_stopped allowances stop t ≡ true
    → is_stopped allowances stop (with_steps t steps) ≡ true

-- once an audit stops, what is read stays when steps are added
abbrev pub StopIsRead : Type 0
StopIsRead = (allowances : List Allowance) (stop : Option ℕ) (t : Trace) (steps : List Step)
    → malformed_step (with_steps t steps) ≡ None → t.opening.slots ≤ 21 → is_stopped allowances stop t ≡ true
    → read_by allowances stop (with_steps t steps) ≡ read_by allowances stop t

-- an audit that stopped, before a fault or without one, ends with the recording as far as it is audited
ended_at-stopped : (allowances : List Allowance) (stop : Option ℕ) (t : Trace) (fault : Option VcdFault)
    → is_stopped allowances stop t ≡ true → ended_at allowances stop t fault ≡ Ok (read_by allowances stop t)
ended_at-stopped allowances stop t None stopped = refl
ended_at-stopped allowances stop t (Some fault) stopped = ended_at-stopped_before allowances stop t fault stopped

-- the audit stops before the end of a body
pub WritesRest-stopped : StopStays → StopIsRead
    → (head : List ℕ) (audit : GivenSteps) (reading : TextReading) (t : Trace)
    (u v : Writing) → ExtendsTo t reading.recorded → is_stopped audit.allowances audit.stop t ≡ true
    → AuditGoesTo {A = Unit {0}} head audit t u v (Ok tt)
    → WritesRest {A = Unit {0}} head audit (lines_of head audit) reading t u v (Ok tt)
unfolding break_lines
WritesRest-stopped stays read head audit reading t u v on stopped goes =
    let (text, same, writes) = goes in
    let here : malformed_step (with_steps t on.more) ≡ None = sym (ap malformed_step on.is) ∙ on.formed in
    let alike = read audit.allowances audit.stop t on.more here on.few stopped in
    let still = stays audit.allowances audit.stop t on.more here on.few stopped in
    let line = line_of_break audit.allowances audit.stop head in (
      text,
      ap (break_lines audit.allowances audit.stop head) on.is ∙ ap (λ (a : Trace). flat_map line (breaks a)) alike
          ∙ same,
      (
        writes,
        ap (λ (r : Trace). ended_at audit.allowances audit.stop r reading.fault) on.is
            ∙ ended_at-stopped audit.allowances audit.stop (with_steps t on.more) reading.fault still ∙ ap Ok alike,
      ),
    )
