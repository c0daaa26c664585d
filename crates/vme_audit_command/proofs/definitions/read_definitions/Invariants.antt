-- All bytes that were read are held. Each read gave some.
use Rattle.std.proofs.Common.{◌≡◌, ◌+◌}
use Rattle.std.specs.Io.KnownBytes.{Consumes}
use Rattle.vme_audit_command.proofs.definitions.read_definitions.Given as goal

abbrev pub invariant-loop : goal.invariant-loop
invariant-loop g l = record {
  held : Consumes (g.D.Source.reading l.initial.dump).left (g.D.Source.reading l.dump).left l.input;
  failures : (g.D.Source.reading l.dump).failures ≡ (g.D.Source.reading l.initial.dump).failures;
  reads : (g.D.Source.reading l.dump).reads ≡ (g.D.Source.reading l.initial.dump).reads + l.counter;
}
