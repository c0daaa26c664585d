-- The parts so far have these names, and are opened.
use Rattle.std.proofs.Common.{◌≡◌, map, take, string_bytes}
use Rattle.vme_program.specs.Parts.{AreOpened}
use Rattle.vme_program.proofs.parts.open_parts.Given as goal

abbrev pub invariant-loop-name : goal.invariant-loop-name
invariant-loop-name g l = record {
  named : map (λ p. p.name.now) l.parts.items ≡ take l.name-index (map string_bytes l.names);
  opened : AreOpened (g.S.Environment.opens l.environment) (take l.name-index (map string_bytes l.names))
      (map (λ p. g.S.Reader.Source.reading p.part) l.parts.items);
}
