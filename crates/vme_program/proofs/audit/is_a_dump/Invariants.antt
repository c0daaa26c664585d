-- The dumps so far are other files.
use Rattle.std.proofs.Common.{All, map, take}
use Rattle.vme_program.specs.Audits.{IsOther}
use Rattle.vme_program.proofs.audit.is_a_dump.Given as goal

abbrev pub invariant-loop-named : goal.invariant-loop-named
invariant-loop-named g l = All (IsOther g.S.Environment l.environment l.id)
    (take l.named-index (map (λ d. record { name = d.name.now; dump = g.S.Reader.Source.reading d.dump }) l.dumps))
