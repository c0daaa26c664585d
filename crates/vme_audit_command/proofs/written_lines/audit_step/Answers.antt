use Rattle.std.proofs.Common.{◌≡◌, ◌∷◌, ◌++◌, [], None, List, ℕ, ap, ◌∙◌}
use Rattle.vme_trace.specs.WellFormed.{malformed_step}
use Rattle.vme_auditor.specs.Breaks.{as_break}
use Rattle.vme_stream.specs.Texts.{line_of}
use Rattle.vme_stream.proofs.OutputLemmas.{Writes-nothing}
use Rattle.vme_audit_lines.specs.AuditLines.{audit_break_text}
use Rattle.vme_audit_command.specs.DumpAudits.{given_more, line_of_break, lines_of}
use Rattle.vme_audit_command.proofs.BodyLemmas.{lines_of-with_break, AuditGoesOn-no_memory, lines_of-without_break}
use Rattle.vme_audit_command.proofs.BodyLemmas.{GoesOn-written_text}
use Rattle.vme_audit_command.proofs.written_lines.audit_step.Goals as goal

pub returns-in-Ok-Some-clause-writes : goal.returns-in-Ok-Some-clause-writes
returns-in-Ok-Some-clause-writes g c =
    let audit = c.args.auditor.now in
    let head = c.args.head.now in
    let steps = c.args.step.now ∷ [] in
    let found = c.in-Ok-Some.found in
    let b = as_break found.found in
    let line : List ℕ = head ++ line_of (audit_break_text found.category b) in
    let is : line ≡ line_of_break audit.allowances audit.stop head b =
    ap (λ s. head ++ line_of (audit_break_text s b))
    (rw c.in-Ok-Some.field-0-is at c.in-Ok-Some.ensures.category) in
    λ formed few.
    let here : malformed_step c.take.new.self.recording ≡ None =
    ap (λ a. malformed_step a.recording) c.in-Ok-Some.ensures.given ∙ formed in
    GoesOn-written_text (lines_of head audit) (lines_of head (given_more audit steps)) line
    (g.O.Sink.writing c.args.out.now) (g.O.Sink.writing c.write_break.new.out) c.write_break.result
    (lines_of-with_break head audit c.take.new.self steps b line c.in-Ok-Some.ensures.given
    (rw c.in-Ok-Some.field-0-is at c.in-Ok-Some.ensures.told here) is)
    c.write_break.ensures

pub returns-in-Ok-None-clause-writes : goal.returns-in-Ok-None-clause-writes
returns-in-Ok-None-clause-writes g c =
    let audit = c.args.auditor.now in
    let head = c.args.head.now in
    let steps = c.args.step.now ∷ [] in
    λ formed few.
    let here : malformed_step c.take.new.self.recording ≡ None =
    ap (λ a. malformed_step a.recording) c.in-Ok-None.ensures.given ∙ formed in (
      [],
      lines_of-without_break head audit c.take.new.self steps c.in-Ok-None.ensures.given
          (rw c.in-Ok-None.field-0-is at c.in-Ok-None.ensures.told here),
      Writes-nothing (g.O.Sink.writing c.args.out.now),
    )

pub returns-in-Err-clause-writes : goal.returns-in-Err-clause-writes
returns-in-Err-clause-writes g c = AuditGoesOn-no_memory (Unit {0}) c.reading_goes_on.ensures.breaks c.args.head.now
    c.args.auditor.now
    (c.args.step.now ∷ []) (g.O.Sink.writing c.args.out.now)
