-- What is written for a dump is the answer that the definitions give its bytes, or, after a failure, a beginning of it.
use Rattle.std.proofs.Common.{◌≡◌, ◌≤◌, ℕ, Bool, true, false, List, [], ◌++◌, Option, None, Some, IfSome, Result, Ok}
use Rattle.std.proofs.Common.{Err, length}
use Rattle.std.proofs.Common.{sym, ap, subst, ◌∙◌, append-nil, flat_map, refl}
use Rattle.std.specs.Io.KnownBytes.{Consumes}
use Rattle.vme_trace.specs.LineNumbers.{line_count}
use Rattle.vme_skew.specs.Settling.{Settling}
use Rattle.vme_trace.specs.Streams.{Reading, Writing}
use Rattle.vme_trace.specs.Trace.{Trace}
use Rattle.vme_bind.specs.Binding.{BoundLines}
use Rattle.vme_bind.specs.TextReading.{TextReading}
use Rattle.vme_bind.specs.declared.fault.CaptureFault.{CaptureFault}
use Rattle.vme_stream.specs.declared.refusal.Refusal.{Refusal}
use Rattle.vme_audit.specs.Covered.{outcome as outcome_of}
use Rattle.vme_audit.specs.Parts.{breaks}
use Rattle.vme_audit.specs.declared.allowance.Allowance.{Allowance}
use Rattle.vme_stream.specs.Outputs.{FailsToWrite, Writes}
use Rattle.vme_stream.proofs.OutputLemmas.{FailsToWrite-after, FailsToWrite-longer, Writes-append, Writes-nothing}
use Rattle.vme_step_auditor.specs.ReadBy.{GivenSteps, read_by, read_of}
use Rattle.vme_step_reader.specs.StepReading.{StepReading, whole_reading}
use Rattle.vme_audit_command.specs.Bodies.{AuditsRest, HasGiven, IsLater, WritesRest, ended_at}
use Rattle.vme_dump_input.specs.SettledReadings.{settled_by, skew_of}
use Rattle.vme_dump_input.specs.SettledSteps.{ComesOut}
use Rattle.vme_audit_command.specs.Definitions.{IsBodyBegun, ReadsDefinitions}
use Rattle.vme_audit_command.specs.DumpAnswers.{AuditOptions, AnswersBody, AuditsDump, DumpAnswer, EndsAs, answer_by}
use Rattle.vme_audit_command.specs.DumpAnswers.{reading_answer, dump_answer, last_lines}
use Rattle.vme_audit_command.specs.DumpAudits.{WritesPrefix, break_lines, line_of_break, lines_of, or_not_written}
use Rattle.vme_audit_command.specs.LastLines.{WritesOutcome, counts_unless, outcome_line_of}
use Rattle.vme_audit_command.specs.declared.written_lines.NoOutcome.{NoOutcome}
use Rattle.vme_audit_command.specs.declared.written_lines.NoOutcome.TheVariants.{CannotRead, NotWritten, Refused}
use Rattle.vme_audit_command.specs.declared.written_lines.WriteFault.{WriteFault}
use Rattle.vme_audit_command.specs.declared.written_lines.WriteFault.TheVariants.{Memory, CannotWrite}
use Rattle.vme_audit_command.proofs.LastLemmas.{WritesPrefix-nothing}
use Rattle.vme_audit_command.proofs.BodyPieces.{left_of-known, left_of}
use Rattle.vme_audit_command.proofs.WriteLemmas.{WritesPrefix-after, WritesPrefix-longer}

-- before the first step there are no lines
pub lines_of-none : (head : List ℕ) (audit : GivenSteps) → breaks (read_of audit) ≡ [] → lines_of head audit ≡ []
unfolding break_lines
lines_of-none head audit none = ap (flat_map (line_of_break audit.allowances audit.stop head)) none

-- the options of an audit, by their fields
abbrev pub options_by : List Allowance → Option ℕ → ℕ → ℕ → Bool → AuditOptions
options_by allowances stop skew transfers is_quiet =
    record { allowances = allowances; transfers = transfers; stop = stop; skew = skew; is_quiet = is_quiet }

-- an answer begins with the lines of the breaks
answer_by-lines_first : (options : AuditOptions) (head lines : List ℕ) (ended : Result Trace Refusal)
    → (more : List ℕ) × ((answer_by options head lines ended).out ≡ lines ++ more)
answer_by-lines_first options head lines (Ok a) = (last_lines options head a, refl)
answer_by-lines_first options head lines (Err refusal) = ([], sym (append-nil lines))

-- if no lines were written before, the text is all lines
append-nothing_before : (all before text : List ℕ) → before ≡ [] → all ≡ before ++ text → all ≡ text
append-nothing_before all before text none is = is ∙ ap (λ (l : List ℕ). l ++ text) none

-- a body, of which `reading` is read: while its steps are audited, the audit goes from `first`, which has no lines, to
-- `later`, and the output from u to v
module _ (skew transfers : ℕ) (is_quiet : Bool) (head : List ℕ) (first later : GivenSteps)
    (none : lines_of head first ≡ [])
    (reading : TextReading) (u v : Writing) where
  -- the answer begins with the lines of the breaks, `text`
  reading_answer-lines_first : (text : List ℕ)
      → break_lines first.allowances first.stop head reading.recorded ≡ lines_of head first ++ text
      → (more : List ℕ) × ((reading_answer (options_by first.allowances first.stop skew transfers is_quiet) head
      reading).out ≡ text ++ more)
  reading_answer-lines_first text same =
      let lines = break_lines first.allowances first.stop head reading.recorded in
      let (more, is) = answer_by-lines_first (options_by first.allowances first.stop skew transfers is_quiet) head lines
      (ended_at first.allowances first.stop reading.recorded reading.fault) in
      (more, is ∙ ap (λ (l : List ℕ). l ++ more) (append-nothing_before lines (lines_of head first) text none same))

  -- if the lines of a body end without an outcome, by `why`, so does the answer
  pub EndsAs-no_outcome : (why : NoOutcome)
      → WritesRest {A = Unit {0}} head first (lines_of head first) reading later.recording u v (Err why)
      → EndsAs (reading_answer (options_by first.allowances first.stop skew transfers is_quiet) head reading) u v
      (Err why)
  EndsAs-no_outcome (Refused refusal) ends =
      let options = options_by first.allowances first.stop skew transfers is_quiet in
      let (text, same, (writes, ended)) = ends in
      let lines = break_lines first.allowances first.stop head reading.recorded in
      let is = append-nothing_before lines (lines_of head first) text none same in
      let answer : reading_answer options head reading ≡ record { out = text; ended = Err refusal } =
      ap (λ (l : List ℕ). answer_by options head l (ended_at first.allowances first.stop reading.recorded
      reading.fault)) is
      ∙ ap (answer_by options head text) ended in
      subst (λ (a : DumpAnswer). EndsAs a u v (Err (Refused refusal))) (sym answer) (writes, refl)
  EndsAs-no_outcome CannotRead ends =
      let (text, same, some) = ends in
      let (more, all) = reading_answer-lines_first text same in
      subst (λ (l : List ℕ). WritesPrefix u v l) (sym all) (WritesPrefix-longer u v text more some)
  EndsAs-no_outcome (NotWritten CannotWrite) ends =
      let (text, same, fails) = ends in
      let (more, all) = reading_answer-lines_first text same in
      subst (λ (l : List ℕ). FailsToWrite u v l) (sym all) (FailsToWrite-longer u v text more fails)
  EndsAs-no_outcome (NotWritten Memory) ends =
      let (text, same, some) = ends in
      let (more, all) = reading_answer-lines_first text same in
      subst (λ (l : List ℕ). WritesPrefix u v l) (sym all) (WritesPrefix-longer u v text more some)

  -- after the lines of the breaks the last lines are written
  module _ (w : Writing) (kept : IsLater first later)
      (ends : WritesRest {A = Unit {0}} head first (lines_of head first) reading later.recording u v (Ok tt)) where
    -- the last lines of audit `a` are written
    abbrev WritesLast : GivenSteps → Result ℕ WriteFault → Type 0
    WritesLast a result = WritesOutcome (counts_unless is_quiet a.allowances head (read_of a)
        ++ outcome_line_of head (outcome_of a.allowances transfers (read_of a)))
        (outcome_of a.allowances transfers (read_of a)) v w result

    -- the last lines are the same by the rules of the first audit
    WritesLast-by_first : (result : Result ℕ WriteFault) → WritesLast later result
        → WritesLast (record first { recording = later.recording }) result
    WritesLast-by_first result writes_last = subst (λ (a : GivenSteps). WritesLast a result) kept.same writes_last

    -- the answer has the lines of the breaks, `text`, which were written, and the last lines
    reading_answer-text : (text : List ℕ)
        × (reading_answer (options_by first.allowances first.stop skew transfers is_quiet) head reading
        ≡ answer_by (options_by first.allowances first.stop skew transfers is_quiet) head text
        (Ok (read_by first.allowances first.stop later.recording)))
        × Writes u v text
    reading_answer-text =
        let options = options_by first.allowances first.stop skew transfers is_quiet in
        let (text, same, (writes, ended)) = ends in
        let lines = break_lines first.allowances first.stop head reading.recorded in
        let is = append-nothing_before lines (lines_of head first) text none same in (
          text,
          ap (λ (l : List ℕ). answer_by options head l (ended_at first.allowances first.stop reading.recorded
              reading.fault)) is ∙ ap (answer_by options head text) ended,
          writes,
        )

    -- with the last lines the answer is written, with the status, or it ends without an outcome if they aren't written
    pub EndsAs-last : (written : Result ℕ WriteFault) → WritesLast later written
        → EndsAs (reading_answer (options_by first.allowances first.stop skew transfers is_quiet) head reading) u w
        (or_not_written written)
    EndsAs-last (Ok status) writes_last =
        let (text, answer, writes) = reading_answer-text in
        let (last, is) = WritesLast-by_first (Ok status) writes_last in
        subst (λ (a : DumpAnswer). EndsAs a u w (Ok status)) (sym answer)
        (Writes-append u v w text _ writes last, ap Ok (sym is))
    EndsAs-last (Err CannotWrite) writes_last =
        let (text, answer, writes) = reading_answer-text in
        subst (λ (a : DumpAnswer). EndsAs a u w (Err (NotWritten CannotWrite))) (sym answer)
        (FailsToWrite-after u v w text _ writes (WritesLast-by_first (Err CannotWrite) writes_last))
    EndsAs-last (Err Memory) writes_last =
        let (text, answer, writes) = reading_answer-text in
        subst (λ (a : DumpAnswer). EndsAs a u w (Err (NotWritten Memory))) (sym answer)
        (WritesPrefix-after u v w text _ writes (WritesLast-by_first (Err Memory) writes_last))

-- ---- after the definitions

-- a body that begins with `held`, after the definitions, which r has read; if `is_more` is true, the bytes of `source`
-- follow. The rules of the audit are those of `first`.
module _ (allowances : List Allowance) (stop : Option ℕ) (skew transfers : ℕ) (is_quiet : Bool) (head : List ℕ)
    (first later : GivenSteps) (fits : first.allowances ≡ allowances) (stops : first.stop ≡ stop)
    (none : lines_of head first ≡ []) (r : StepReading) (held : List ℕ) (is_more : Bool) (source : Reading)
    (u : Writing) where
  -- the rules in the options can be replaced by the equal rules of the audit
  AnswersBody-by_rules : (w : Writing) (result : Result ℕ NoOutcome)
      → AnswersBody (options_by first.allowances first.stop skew transfers is_quiet) head r held is_more source u w
      result
      → AnswersBody (options_by allowances stop skew transfers is_quiet) head r held is_more source u w result
  AnswersBody-by_rules w result answers =
      subst (λ (s : Option ℕ). AnswersBody (options_by allowances s skew transfers is_quiet) head r held is_more source
      u w result) stops
      (subst (λ (a : List Allowance). AnswersBody (options_by a first.stop skew transfers is_quiet) head r held is_more
      source
      u w result) fits answers)

  -- a body whose lines end without an outcome, by `why`, is answered so
  pub AnswersBody-no_outcome : (v : Writing) (why : NoOutcome)
      → AuditsRest {A = Unit {0}} (skew_of skew) head first later r held is_more source u v (Err why)
      → AnswersBody (options_by allowances stop skew transfers is_quiet) head r held is_more source u v (Err why)
  AnswersBody-no_outcome v why rest =
      let (whole, body, ends) = rest in
      AnswersBody-by_rules v (Err why) (
        whole,
        body,
        EndsAs-no_outcome skew transfers is_quiet head first later none
            (settled_by (skew_of skew) (whole_reading r whole)) u
            v why ends,
      )

  -- a body with its last lines is answered with their status, or without an outcome if they aren't written
  pub AnswersBody-outcome : (v w : Writing) (written : Result ℕ WriteFault) → IsLater first later
      → AuditsRest {A = Unit {0}} (skew_of skew) head first later r held is_more source u v (Ok tt)
      → WritesOutcome (counts_unless is_quiet later.allowances head (read_of later)
      ++ outcome_line_of head (outcome_of later.allowances transfers (read_of later)))
      (outcome_of later.allowances transfers (read_of later)) v w written
      → AnswersBody (options_by allowances stop skew transfers is_quiet) head r held is_more source u w
      (or_not_written written)
  AnswersBody-outcome v w written kept rest writes_last =
      let (whole, body, ends) = rest in
      AnswersBody-by_rules w (or_not_written written) (
        whole,
        body,
        EndsAs-last skew transfers is_quiet head first later none
            (settled_by (skew_of skew) (whole_reading r whole))
            u v w kept ends written writes_last,
      )

-- ---- a whole dump

-- before its first step an audit was given what the reader has given: nothing
pub HasGiven-first : (skew : Option ℕ) (settler : Option Settling) (first : GivenSteps) (r : StepReading)
    → ComesOut skew settler r.given (whole_reading r []).time r.given
    → first.recording ≡ r.given → r.given.opening.slots ≤ 21 → length r.given.opening.levels ≡ line_count
    → IsBodyBegun r → HasGiven skew settler first r
HasGiven-first skew settler first r comes given few whole begun = record {
  comes = subst (ComesOut skew settler r.given (whole_reading r []).time) (sym given) comes;
  few = few;
  whole = whole;
  formed = begun.formed;
}

-- if `done` was read of a source, and what is left, if it is known, is `more`, all of it was `done ++ more`
all_bytes-from_rest : (a b : Option (List ℕ)) (done more : List ℕ) → Consumes a b done → IfSome b (λ told. more ≡ told)
    → IfSome a (λ told. done ++ more ≡ told)
all_bytes-from_rest None b done more read all = tt
all_bytes-from_rest (Some x) None done more read all = absurd read
all_bytes-from_rest (Some x) (Some y) done more read all = ap (λ (l : List ℕ). done ++ l) all ∙ sym read

module _ (options : AuditOptions) (head : List ℕ) (binding : BoundLines) (source : Reading) (u : Writing) where
  -- without memory nothing is written of a dump
  pub AuditsDump-no_memory : AuditsDump options head binding source u u (Err (NotWritten Memory))
  AuditsDump-no_memory = (left_of source.left, left_of-known source.left, WritesPrefix-nothing u _)

  -- a dump whose definitions aren't read, by `why`, is answered so, and nothing is written
  pub AuditsDump-no_definitions : (new : Reading) (left : List ℕ) (why : NoOutcome)
      → ReadsDefinitions binding source new left (Err why) → AuditsDump options head binding source u u (Err why)
  AuditsDump-no_definitions new left (Refused refusal) reads =
      let (text, all, (fault, is, same)) = reads in (
        text,
        all,
        subst (λ (x : Result TextReading CaptureFault). EndsAs (dump_answer options head x) u u (Err (Refused refusal)))
            (sym is) (Writes-nothing u, ap Err same),
      )
  AuditsDump-no_definitions new left CannotRead reads =
      (left_of source.left, left_of-known source.left, WritesPrefix-nothing u _)
  AuditsDump-no_definitions new left (NotWritten CannotWrite) reads = absurd reads.2
  AuditsDump-no_definitions new left (NotWritten Memory) reads =
      (left_of source.left, left_of-known source.left, WritesPrefix-nothing u _)

  -- a dump with its definitions and its body was audited
  pub AuditsDump-answers : (new : Reading) (left : List ℕ) (r : StepReading) (is_more : Bool) (w : Writing)
      (result : Result ℕ NoOutcome) → ReadsDefinitions binding source new left (Ok (r, is_more))
      → (IsBodyBegun r → AnswersBody options head r left is_more new u w result)
      → AuditsDump options head binding source u w result
  AuditsDump-answers new left r true w result reads answers =
      let (begun, (done, read, whole)) = reads in
      let (all, (more, are, is), ends) = answers begun in (
        done ++ more,
        all_bytes-from_rest source.left new.left done more read are,
        subst (λ (x : Result TextReading CaptureFault). EndsAs (dump_answer options head x) u w result)
            (ap (λ (l : List ℕ). Ok (whole_reading r l)) is ∙ sym (whole more)) ends,
      )
  AuditsDump-answers new left r false w result reads answers =
      let (begun, (text, all, whole)) = reads in
      let (body, is, ends) = answers begun in (
        text,
        all,
        subst (λ (x : Result TextReading CaptureFault). EndsAs (dump_answer options head x) u w result)
            (ap (λ (l : List ℕ). Ok (whole_reading r l)) is ∙ sym whole) ends,
      )
