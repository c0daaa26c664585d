-- The lines about a dump after those of its breaks.
use Rattle.std.specs.Prelude.{◌≡◌, ℕ, Bool, if◌then◌else◌, List, [], ◌++◌, length, Result, Ok, Err}
use Rattle.vme_trace.specs.Streams.{Writing}
use Rattle.vme_trace.specs.Trace.{Trace}
use Rattle.vme_stream.specs.Outputs.{Writes, FailsToWrite}
use Rattle.vme_stream.specs.Texts.{line_of}
use Rattle.vme_audit.specs.Allowances.{unreadables, wrongs}
use Rattle.vme_audit.specs.AskedRules.{never_asked}
use Rattle.vme_audit.specs.Counted.{counts}
use Rattle.vme_audit.specs.Covered.{allowed_count}
use Rattle.vme_audit.specs.Parts.{breaks}
use Rattle.vme_audit.specs.declared.allowance.Allowance.{Allowance}
use Rattle.vme_audit.specs.declared.outcome.Outcome.{Outcome}
use Rattle.vme_auditor.specs.declared.findings.BreakCounts.{BreakCounts}
use Rattle.vme_audit_lines.specs.AuditLines.{break_counts_text, cycle_counts_text, outcome_status, outcome_text}
use Rattle.vme_audit_lines.specs.AuditLines.{transfer_counts_text, unasked_line}
use Rattle.vme_audit_command.specs.DumpAudits.{WritesPrefix}
use Rattle.vme_audit_command.specs.declared.written_lines.WriteFault.{WriteFault}
use Rattle.vme_audit_command.specs.declared.written_lines.WriteFault.TheVariants.{Memory, CannotWrite}

module _ (allowances : List Allowance) (head : List ℕ) where
  -- the numbers of a recording's breaks, by how they count
  abbrev pub break_counts_of : Trace → BreakCounts
  break_counts_of a =
      record {
        broken = length (wrongs allowances (breaks a));
        unreadable = length (unreadables allowances (breaks a));
        allowed = allowed_count allowances a;
      }

  -- the counts of the recording, and the rules that it never asks
  abbrev pub count_lines_of : Trace → List ℕ
  count_lines_of a =
      head ++ line_of (break_counts_text (break_counts_of a)) ++ head ++ line_of (cycle_counts_text (counts a))
      ++ head ++ line_of (transfer_counts_text (counts a)) ++ unasked_line head (never_asked a)

-- the lines of counts, unless `is_quiet`
abbrev pub counts_unless : Bool → List Allowance → List ℕ → Trace → List ℕ
counts_unless is_quiet allowances head a = if is_quiet then [] else count_lines_of allowances head a

-- the line of an outcome
abbrev pub outcome_line_of : List ℕ → Outcome → List ℕ
outcome_line_of head o = head ++ line_of (outcome_text o)

-- a text that ends with an outcome is written, and the result is the status of the outcome
abbrev pub WritesOutcome : List ℕ → Outcome → Writing → Writing → Result ℕ WriteFault → Type 0
WritesOutcome text o old new (Ok status) = Writes old new text × (status ≡ outcome_status o)
WritesOutcome text o old new (Err CannotWrite) = FailsToWrite old new text
WritesOutcome text o old new (Err Memory) = WritesPrefix old new text
