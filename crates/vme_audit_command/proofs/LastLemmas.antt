-- The last lines about a dump, one after the other.
use Rattle.std.proofs.Common.{◌≡◌, ℕ, List, [], ◌++◌, Result, Ok, Err, refl, IfErr, IfOk}
use Rattle.vme_trace.specs.Streams.{Writing}
use Rattle.vme_trace.specs.Trace.{Trace}
use Rattle.vme_audit.specs.AskedRules.{never_asked}
use Rattle.vme_audit.specs.declared.allowance.Allowance.{Allowance}
use Rattle.vme_audit.specs.declared.outcome.Outcome.{Outcome}
use Rattle.vme_auditor.specs.Findings.{AreBreakCountsOf, AreFindingsOf}
use Rattle.vme_auditor.specs.declared.findings.AuditFindings.{AuditFindings}
use Rattle.vme_auditor.specs.declared.findings.BreakCounts.{BreakCounts}
use Rattle.vme_audit_lines.specs.AuditLines.{count_lines, outcome_status, unasked}
use Rattle.vme_stream.specs.Outputs.{Writes}
use Rattle.vme_stream.proofs.OutputLemmas.{FailsToWrite-after, FailsToWrite-longer, Writes-append, Writes-nothing}
use Rattle.vme_audit_command.specs.DumpAudits.{WritesPrefix, WritesText}
use Rattle.vme_audit_command.specs.LastLines.{WritesOutcome, count_lines_of}
use Rattle.vme_audit_command.specs.declared.written_lines.WriteFault.{WriteFault}
use Rattle.vme_audit_command.specs.declared.written_lines.WriteFault.TheVariants.{Memory, CannotWrite}
use Rattle.vme_audit_command.proofs.WriteLemmas.{WritesPrefix-after, WritesPrefix-longer}
use Rattle.vme_audit_command.proofs.WriteLemmas.{WritesPrefix-whole}

-- the lines of the counts and findings are those of the recording
pub count_lines-of_recording : (allowances : List Allowance) (head : List ℕ) (a : Trace) (c : BreakCounts)
    (f : AuditFindings)
    → AreBreakCountsOf c allowances a → AreFindingsOf f a → unasked f.events ≡ never_asked a
    → count_lines head c f ≡ count_lines_of allowances head a
count_lines-of_recording allowances head a c f counted found asked =
    rw (counted.broken, counted.unreadable, counted.allowed, found.counts, asked) refl

-- if nothing was written, a prefix of any text was, the empty one
pub WritesPrefix-nothing : (w : Writing) (text : List ℕ) → WritesPrefix w w text
WritesPrefix-nothing w text = WritesPrefix-longer w w [] text (WritesPrefix-whole w w [] (Writes-nothing w))

-- the outcome was written; after that the only error is want of memory
pub WritesOutcome-written : (o : Outcome) (u v : Writing) (text : List ℕ) (result : Result ℕ WriteFault)
    → Writes u v text → IfOk result (λ status. status ≡ outcome_status o) → IfErr result (λ fault. fault ≡ Memory)
    → WritesOutcome text o u v result
WritesOutcome-written o u v text (Ok status) writes ok err = (writes, ok)
WritesOutcome-written o u v text (Err CannotWrite) writes ok err = absurd (cannot_write-not_memory err)
  where
    -- that a write fails isn't that memory runs out
    cannot_write-not_memory : CannotWrite ≡ Memory → ⊥
    cannot_write-not_memory same = cc
WritesOutcome-written o u v text (Err Memory) writes ok err = WritesPrefix-whole u v text writes

-- if a text that ends with an outcome wasn't written, or in part, the outcome wasn't
pub WritesOutcome-unwritten : (A : Type 0) (o : Outcome) (u v : Writing) (text : List ℕ) (fault : WriteFault)
    → WritesText {A = A} u v (Err fault) text → WritesOutcome text o u v (Err fault)
WritesOutcome-unwritten A o u v text CannotWrite tells = tells
WritesOutcome-unwritten A o u v text Memory tells = tells

-- if a text was written, and then another one that ends with an outcome, both were, one after the other
pub WritesOutcome-after_text : (o : Outcome) (u v w : Writing) (text more : List ℕ) (result : Result ℕ WriteFault)
    → Writes u v text → WritesOutcome more o v w result → WritesOutcome (text ++ more) o u w result
WritesOutcome-after_text o u v w text more (Ok status) one two = (Writes-append u v w text more one two.0, two.1)
WritesOutcome-after_text o u v w text more (Err CannotWrite) one two = FailsToWrite-after u v w text more one two
WritesOutcome-after_text o u v w text more (Err Memory) one two = WritesPrefix-after u v w text more one two

-- if a text wasn't written, or in part, nor was the outcome after it
pub WritesOutcome-unreached : (A : Type 0) (o : Outcome) (u v : Writing) (text more : List ℕ) (fault : WriteFault)
    → WritesText {A = A} u v (Err fault) text → WritesOutcome (text ++ more) o u v (Err fault)
WritesOutcome-unreached A o u v text more CannotWrite tells = FailsToWrite-longer u v text more tells
WritesOutcome-unreached A o u v text more Memory tells = WritesPrefix-longer u v text more tells
