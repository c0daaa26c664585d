-- The audit of the body is under way, for any skew. Each read gave bytes.
use Rattle.std.proofs.Common.{◌≡◌, ◌+◌, ℕ, Option}
use Rattle.vme_audit_command.specs.Bodies.{HasGiven}
use Rattle.vme_audit_command.proofs.BodyPieces.{IsUnderway}
use Rattle.vme_audit_command.proofs.body.audit_body.Given as goal

abbrev pub invariant-loop : goal.invariant-loop
invariant-loop g l = record {
  underway : (skew : Option ℕ) → HasGiven skew l.initial.settler l.initial.auditor l.initial.reader
      → HasGiven skew l.settler l.auditor l.reader
      × IsUnderway l.head (g.D.Source.reading l.initial.dump) (g.D.Source.reading l.dump)
      (g.O.Sink.writing l.initial.out) (g.O.Sink.writing l.out) l.initial.auditor l.auditor l.initial.reader l.reader
      l.initial.input l.input;
  failures : (g.D.Source.reading l.dump).failures ≡ (g.D.Source.reading l.initial.dump).failures;
  reads : (g.D.Source.reading l.dump).reads ≡ (g.D.Source.reading l.initial.dump).reads + l.counter;
}
