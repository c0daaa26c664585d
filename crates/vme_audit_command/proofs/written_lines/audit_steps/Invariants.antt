-- The steps so far were audited, and the lines of their breaks were written.
use Rattle.std.proofs.Common.{◌≡◌, ◌≤◌, ℕ, List, ◌++◌, None, take}
use Rattle.vme_trace.specs.Followed.{with_steps}
use Rattle.vme_trace.specs.WellFormed.{malformed_step}
use Rattle.vme_stream.specs.Outputs.{Writes}
use Rattle.vme_audit_command.specs.DumpAudits.{given_more, lines_of}
use Rattle.vme_audit_command.proofs.written_lines.audit_steps.Given as goal

abbrev pub invariant-loop-step : goal.invariant-loop-step
invariant-loop-step g l = record {
  given : l.auditor ≡ given_more l.initial.auditor (take l.step-index l.steps);
  writes : malformed_step (with_steps l.initial.auditor.recording l.steps) ≡ None
      → l.initial.auditor.recording.opening.slots ≤ 21
      → (text : List ℕ) × (lines_of l.head l.auditor ≡ lines_of l.head l.initial.auditor ++ text)
      × Writes (g.O.Sink.writing l.initial.out) (g.O.Sink.writing l.out) text;
}
