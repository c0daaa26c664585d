-- How the audit of a dump ends: the status isn't 5 unless a write fails, and what is written is a possible end of the
-- dump.
use Rattle.std.proofs.Common.{◌≡◌, ◌≢◌, ◌⊎◌, ℕ, Bool, true, false, if◌then◌else◌, nat_eq, List, [], ◌∷◌, ◌++◌, All}
use Rattle.std.proofs.Common.{length, take, Option, None, Some, Result, Ok, Err, IfErr, inl, inr}
use Rattle.std.proofs.Common.{refl, sym, ap, subst, ◌∙◌}
use Rattle.std.proofs.Math.Seq.{take-length}
use Rattle.std.proofs.lemmas.Bool.{eqb-false}
use Rattle.std.proofs.lemmas.List.Elements.{All-cons, All-nil}
use Rattle.vcd_read.specs.declared.fault.FaultKind.{FaultKind}
use Rattle.vcd_read.specs.declared.fault.FaultKind.TheVariants as vcd
use Rattle.vcd_read.specs.declared.fault.VcdFault.{VcdFault}
use Rattle.vme_trace.specs.Streams.{Reading, Writing}
use Rattle.vme_trace.specs.Trace.{Trace}
use Rattle.vme_bind.specs.Binding.{BoundLines}
use Rattle.vme_bind.specs.TextReading.{TextReading, reading_of_text}
use Rattle.vme_bind.specs.declared.fault.BindFaultKind.{BindFaultKind}
use Rattle.vme_bind.specs.declared.fault.BindFaultKind.TheVariants as bind
use Rattle.vme_bind.specs.declared.fault.CaptureFault.{CaptureFault}
use Rattle.vme_bind.specs.declared.fault.CaptureFault.TheVariants as capture
use Rattle.vme_stream.specs.Outputs.{Writes}
use Rattle.vme_stream.specs.Refusals.{binding_refusal_as, capture_refusal, dump_refusal, dump_refusal_as}
use Rattle.vme_stream.specs.Texts.{refusal_status}
use Rattle.vme_stream.specs.declared.refusal.Input.TheVariants.{Dump}
use Rattle.vme_stream.specs.declared.refusal.Refusal.{Refusal}
use Rattle.vme_stream.specs.declared.refusal.Refusal.TheVariants as refusal
use Rattle.vme_audit.specs.declared.allowance.Allowance.{Allowance}
use Rattle.vme_audit.specs.declared.outcome.Outcome.{Outcome}
use Rattle.vme_audit.specs.declared.outcome.Outcome.TheVariants as outcome
use Rattle.vme_audit_lines.specs.AuditLines.{head_of, outcome_status}
use Rattle.vme_audit_command.specs.Bodies.{ended_at}
use Rattle.vme_audit_command.specs.Definitions.{AreAllBytesOf}
use Rattle.vme_audit_command.specs.DumpAudits.{break_lines}
use Rattle.vme_dump_input.specs.SettledReadings.{settled_by, skew_of}
use Rattle.vme_audit_command.specs.DumpAnswers.{AuditOptions, AuditsDump, DumpAnswer, answer_by, dump_answer}
use Rattle.vme_audit_command.specs.DumpAnswers.{dump_outcome}
use Rattle.vme_step_auditor.specs.ReadBy.{is_stopped, read_by}
use Rattle.vme_audit_command.specs.DumpReads.{CountsUnread}
use Rattle.vme_audit_command.specs.DumpEnds.{AuditsNamed, EndsWithReason, EndsWithStatus, WritesEnd}
use Rattle.vme_audit_command.specs.SeveralDumps.{IsEndOf, IsErrorLine, IsTextPrefix, MayBeReason, NamedReading}
use Rattle.vme_audit_command.specs.SeveralDumps.{TriesEach, answer_to, end_by, memory_line, refusal_line_of}
use Rattle.vme_audit_command.specs.declared.written_lines.NoOutcome.{NoOutcome}
use Rattle.vme_audit_command.specs.declared.written_lines.NoOutcome.TheVariants.{CannotRead, NotWritten, Refused}
use Rattle.vme_audit_command.specs.declared.written_lines.WriteFault.TheVariants.{Memory, CannotWrite}
use Rattle.vme_audit_command.proofs.SeveralLemmas.{not-five}

-- ---- only the status of a failed write is 5

-- the status of an outcome isn't 5
outcome_status-not_five : (o : Outcome) → outcome_status o ≡ 5 → ⊥
outcome_status-not_five (outcome.Conforming n) is = not-five 0 refl is
outcome_status-not_five outcome.Broken is = not-five 1 refl is
outcome_status-not_five outcome.Unreadable is = not-five 2 refl is
outcome_status-not_five (outcome.NotCovered gap) is = not-five 6 refl is

-- the status of a refusal isn't 5
refusal_status-not_five : (why : Refusal) → refusal_status why ≡ 5 → ⊥
refusal_status-not_five refusal.Memory is = not-five 4 refl is
refusal_status-not_five why is = not-five 3 refl is

-- the status, or 0 if there is no outcome
abbrev status_or_zero : Result ℕ Refusal → ℕ
status_or_zero (Ok status) = status
status_or_zero (Err why) = 0

-- the status of an outcome in an answer isn't 5
answer_by-not_five : (options : AuditOptions) (head lines : List ℕ) (ended : Result Trace Refusal) (status : ℕ)
    → (answer_by options head lines ended).ended ≡ Ok status → status ≡ 5 → ⊥
answer_by-not_five options head lines (Ok a) status is five =
    outcome_status-not_five (dump_outcome options head a) (ap status_or_zero is ∙ five)
answer_by-not_five options head lines (Err why) status is five = not-five 0 refl (ap status_or_zero is ∙ five)

-- the status of an outcome in the answer for a dump isn't 5
dump_answer-not_five : (options : AuditOptions) (head : List ℕ) (reading : Result TextReading CaptureFault) (status : ℕ)
    → (dump_answer options head reading).ended ≡ Ok status → status ≡ 5 → ⊥
dump_answer-not_five options head (Ok reading) status is five =
    let settled = settled_by (skew_of options.skew) reading in
    answer_by-not_five options head (break_lines options.allowances options.stop head settled.recorded)
    (ended_at options.allowances options.stop settled.recorded settled.fault) status is five
dump_answer-not_five options head (Err fault) status is five = not-five 0 refl (ap status_or_zero is ∙ five)

-- ---- that a dump can't be read isn't the reason in an answer

-- the reason isn't that a dump can't be read
abbrev IsOtherReason : Refusal → Type 0
IsOtherReason why = why ≢ refusal.CannotRead Dump

-- 1 if the reason is that a dump can't be read, and else 0
abbrev one_if_unread : Refusal → ℕ
one_if_unread (refusal.CannotRead Dump) = 1
one_if_unread other = 0

-- a reason whose number isn't 1 is another one
IsOtherReason-by_number : (why : Refusal) → nat_eq (one_if_unread why) 1 ≡ false → IsOtherReason why
IsOtherReason-by_number why differs = λ is. eqb-false (one_if_unread why) 1 differs (ap one_if_unread is)

-- the reason for a fault of a dump is another one, if `why` is
IsOtherReason-dump_refusal_as : (kind : FaultKind) (why : Refusal) → IsOtherReason why
    → IsOtherReason (dump_refusal_as kind why)
IsOtherReason-dump_refusal_as vcd.Memory why other = IsOtherReason-by_number refusal.Memory refl
IsOtherReason-dump_refusal_as kind why other = other

-- the reason for a fault of a binding is another one, if `why` is
IsOtherReason-binding_refusal_as : (kind : BindFaultKind) (why : Refusal) → IsOtherReason why
    → IsOtherReason (binding_refusal_as kind why)
IsOtherReason-binding_refusal_as bind.Memory why other = IsOtherReason-by_number refusal.Memory refl
IsOtherReason-binding_refusal_as kind why other = other

-- the reason for a fault of a dump or of a binding is another one
IsOtherReason-capture_refusal : (fault : CaptureFault) → IsOtherReason (capture_refusal fault)
IsOtherReason-capture_refusal (capture.Dump fault) =
    IsOtherReason-dump_refusal_as fault.kind (refusal.BadDump fault)
    (IsOtherReason-by_number (refusal.BadDump fault) refl)
IsOtherReason-capture_refusal (capture.Binding fault) =
    IsOtherReason-binding_refusal_as fault.kind (refusal.BadBinding fault)
    (IsOtherReason-by_number (refusal.BadBinding fault) refl)

-- where the end of a dump, or its fault, is refused, the reason is another one
IsOtherReason-ended_at : (allowances : List Allowance) (stop : Option ℕ) (t : Trace) (fault : Option VcdFault)
    → IfErr (ended_at allowances stop t fault) IsOtherReason
IsOtherReason-ended_at allowances stop t None = tt
IsOtherReason-ended_at allowances stop t (Some fault) = by_test (is_stopped allowances stop t)
  where
    -- by whether the audit stopped before the fault
    by_test : (b : Bool)
        → IfErr (if b then Ok (read_by allowances stop t) else Err (dump_refusal fault)) IsOtherReason
    by_test true = tt
    by_test false = IsOtherReason-capture_refusal (capture.Dump fault)

-- the reason in an answer is another one, if that in `ended` is
IsOtherReason-answer_by : (options : AuditOptions) (head lines : List ℕ) (ended : Result Trace Refusal)
    → IfErr ended IsOtherReason → IfErr (answer_by options head lines ended).ended IsOtherReason
IsOtherReason-answer_by options head lines (Ok a) other = tt
IsOtherReason-answer_by options head lines (Err why) other = other

-- the reason in the answer for a dump is another one
IsOtherReason-dump_answer : (options : AuditOptions) (head : List ℕ) (reading : Result TextReading CaptureFault)
    → IfErr (dump_answer options head reading).ended IsOtherReason
IsOtherReason-dump_answer options head (Ok reading) =
    let settled = settled_by (skew_of options.skew) reading in
    IsOtherReason-answer_by options head (break_lines options.allowances options.stop head settled.recorded)
    (ended_at options.allowances options.stop settled.recorded settled.fault)
    (IsOtherReason-ended_at options.allowances options.stop settled.recorded settled.fault)
IsOtherReason-dump_answer options head (Err fault) = IsOtherReason-capture_refusal fault

-- ---- the text of a dump without an outcome

-- a text is a prefix of itself
pub IsTextPrefix-whole : (text : List ℕ) → IsTextPrefix text text
IsTextPrefix-whole text = (length text, sym (take-length text))

module _ (named : NamedReading) (after : Reading) (answer : DumpAnswer) (out : List ℕ)
    (is_front : IsTextPrefix out answer.out) where
  -- memory runs out
  IsEndOf-without_memory : (before : List (List ℕ)) (last : List ℕ) (status : ℕ) → All (IsErrorLine named after) before
      → (last ≡ memory_line) ⊎ (last ≡ refusal_line_of named.name refusal.Memory) → status ≡ 4
      → (errors : List (List ℕ)) → errors ≡ before ++ last ∷ []
      → IsEndOf named answer (record { out = out; errors = errors; status = status; after = after })
  IsEndOf-without_memory before last status others tells four errors is = inr (inr (record {
    out = is_front;
    before = before;
    last = last;
    errors = is;
    others = others;
    tells = tells;
    status = four;
  }))

  -- if a line is an error line, a list of that line has only such lines
  All-one_line : (line : List ℕ) → IsErrorLine named after line → All (IsErrorLine named after) (line ∷ [])
  All-one_line line is = All-cons (IsErrorLine named after) line [] is (All-nil (IsErrorLine named after))

  -- the dump may end with these error lines and this status, which isn't 5
  abbrev MayEndWith : Writing → Writing → ℕ → Type 0
  MayEndWith e p status =
      (errors : List (List ℕ))
      × IsEndOf named answer (record { out = out; errors = errors; status = status; after = after })
      × TriesEach e p errors × (status ≡ 5 → ⊥)

  -- the dump has an outcome
  MayEndWith-status : (e p : Writing) (ended status : ℕ)
      → IsEndOf named answer (record { out = out; errors = []; status = ended; after = after }) → (ended ≡ 5 → ⊥)
      → EndsWithStatus ended e p status → MayEndWith e p status
  MayEndWith-status e p ended status told other (inl (nothing, is)) = (
    [],
    subst (λ (n : ℕ). IsEndOf named answer (record { out = out; errors = []; status = n; after = after }))
        (sym is) told,
    nothing,
    λ five. other (sym is ∙ five),
  )
  MayEndWith-status e p ended status told other (inr (tries, four)) = (
    memory_line ∷ [],
    IsEndOf-without_memory [] memory_line status (All-nil (IsErrorLine named after)) (inl refl) four
        (memory_line ∷ []) refl,
    (p, tries, refl),
    λ five. not-five 4 refl (sym four ∙ five),
  )

  -- the dump has no outcome
  MayEndWith-reason : (why : Refusal) → MayBeReason named after why → (e p : Writing) (status : ℕ)
      → IsEndOf named answer (end_by named.name out (Err why) after)
      → EndsWithReason named.name why e p status → MayEndWith e p status
  MayEndWith-reason why may e p status told (w, ended, inl (tries, from), inl (nothing, is)) = (
    refusal_line_of named.name why ∷ [],
    subst (λ (n : ℕ). IsEndOf named answer
        (record { out = out; errors = refusal_line_of named.name why ∷ []; status = n; after = after }))
        (sym (is ∙ from)) told,
    (w, tries, nothing),
    λ five. refusal_status-not_five why (sym (is ∙ from) ∙ five),
  )
  MayEndWith-reason why may e p status told (w, ended, inl (tries, from), inr (others, four)) = (
    refusal_line_of named.name why ∷ memory_line ∷ [],
    IsEndOf-without_memory (refusal_line_of named.name why ∷ []) memory_line status
        (All-one_line (refusal_line_of named.name why) (inr (why, may, refl))) (inl refl) four
        (refusal_line_of named.name why ∷ memory_line ∷ []) refl,
    (w, tries, (p, others, refl)),
    λ five. not-five 4 refl (sym four ∙ five),
  )
  MayEndWith-reason why may e p status told (w, ended, inr (tries, from), inl (nothing, is)) = (
    memory_line ∷ [],
    IsEndOf-without_memory [] memory_line status (All-nil (IsErrorLine named after)) (inl refl) (is ∙ from)
        (memory_line ∷ []) refl,
    (w, tries, nothing),
    λ five. not-five 4 refl (sym (is ∙ from) ∙ five),
  )
  MayEndWith-reason why may e p status told (w, ended, inr (tries, from), inr (others, four)) = (
    memory_line ∷ memory_line ∷ [],
    IsEndOf-without_memory (memory_line ∷ []) memory_line status (All-one_line memory_line (inl refl)) (inl refl) four
        (memory_line ∷ memory_line ∷ []) refl,
    (w, tries, (p, others, refl)),
    λ five. not-five 4 refl (sym four ∙ five),
  )

-- ---- a dump

module _ (options : AuditOptions) (binding : BoundLines) (named : NamedReading) (after : Reading) (u v e p : Writing)
    (status : ℕ) where
  -- if a prefix of a dump's text was written, and the dump may end with the error lines and the status, it was audited
  AuditsNamed-by_end : (bytes : List ℕ) → AreAllBytesOf named.dump bytes → (out : List ℕ) → Writes u v out
      → (is_front : IsTextPrefix out (answer_to options binding named.name bytes).out)
      → MayEndWith named after (answer_to options binding named.name bytes) out is_front e p status
      → AuditsNamed options binding named after (u, v) (e, p) status
  AuditsNamed-by_end bytes all out writes is_front (errors, is, tries, other) = inl (record {
    end = record { out = out; errors = errors; status = status; after = after };
    may = (bytes, all, is);
    after_is = refl;
    out_is = writes;
    err_is = tries;
    status_is = refl;
    other = other;
  })

  -- a dump was audited by its name, if its text was written with this result, its reads count so, and its end is
  -- written
  pub AuditsNamed-by_result : (ended : Result ℕ NoOutcome)
      → AuditsDump options (head_of named.name) binding named.dump u v ended → CountsUnread named.dump after ended
      → WritesEnd named.name ended e p status → AuditsNamed options binding named after (u, v) (e, p) status
  AuditsNamed-by_result (Ok n) (bytes, all, (writes, is)) counts tells =
      let answer = answer_to options binding named.name bytes in
      AuditsNamed-by_end bytes all answer.out writes (IsTextPrefix-whole answer.out)
      (MayEndWith-status named after answer answer.out (IsTextPrefix-whole answer.out) e p n status
      (inl (counts, ap (λ (x : Result ℕ Refusal). end_by named.name answer.out x after) (sym is)))
      (dump_answer-not_five options (head_of named.name) (reading_of_text binding bytes) n is) tells)
  AuditsNamed-by_result (Err (Refused why)) (bytes, all, (writes, is)) counts tells =
      let answer = answer_to options binding named.name bytes in
      let other : IsOtherReason why = subst (λ (x : Result ℕ Refusal). IfErr x IsOtherReason) is
      (IsOtherReason-dump_answer options (head_of named.name) (reading_of_text binding bytes)) in
      AuditsNamed-by_end bytes all answer.out writes (IsTextPrefix-whole answer.out)
      (MayEndWith-reason named after answer answer.out (IsTextPrefix-whole answer.out) why
      (λ unread. absurd (other unread)) e p status
      (inl (counts, ap (λ (x : Result ℕ Refusal). end_by named.name answer.out x after) (sym is))) tells)
  AuditsNamed-by_result (Err CannotRead) (bytes, all, ((n, appends), same)) counts tells =
      let answer = answer_to options binding named.name bytes in
      let front = take n answer.out in
      AuditsNamed-by_end bytes all front (appends, same) (n, refl)
      (MayEndWith-reason named after answer front (n, refl) (refusal.CannotRead Dump) (λ unread. counts) e p status
      (inr (inl (counts, (front, (n, refl), refl)))) tells)
  AuditsNamed-by_result (Err (NotWritten Memory)) (bytes, all, ((n, appends), same)) counts tells =
      let answer = answer_to options binding named.name bytes in
      let front = take n answer.out in
      AuditsNamed-by_end bytes all front (appends, same) (n, refl)
      (MayEndWith-reason named after answer front (n, refl) refusal.Memory
      (λ unread. absurd (IsOtherReason-by_number refusal.Memory refl unread)) e p status
      (IsEndOf-without_memory named after answer front (n, refl) [] (refusal_line_of named.name refusal.Memory) 4
      (All-nil (IsErrorLine named after)) (inr refl) refl (refusal_line_of named.name refusal.Memory ∷ []) refl) tells)
  AuditsNamed-by_result (Err (NotWritten CannotWrite)) (bytes, all, fails) counts (tries, is) =
      inr (record {
        none_fails = counts;
        bytes = bytes;
        all = all;
        out_is = fails;
        err_is = tries;
        status_is = is;
      })
