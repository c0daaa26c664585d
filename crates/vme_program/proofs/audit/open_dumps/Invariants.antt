-- The dumps so far are opened.
use Rattle.std.proofs.Common.{map, take, string_bytes}
use Rattle.std.specs.List.{AllZip}
use Rattle.vme_program.specs.Audits.{IsDumpOf}
use Rattle.vme_program.proofs.audit.open_dumps.Given as goal

abbrev pub invariant-loop-name : goal.invariant-loop-name
invariant-loop-name g l = AllZip (IsDumpOf g.S.Environment l.environment)
    (take l.name-index (map string_bytes l.names))
    (map (λ d. record { name = d.name.now; dump = g.S.Reader.Source.reading d.dump }) l.dumps.items)
