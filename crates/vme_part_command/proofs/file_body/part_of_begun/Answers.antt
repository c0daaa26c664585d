-- The body is judged, or the binding can't be used on the dump.
use Rattle.std.proofs.Common.{subst}
use Rattle.std.specs.Prelude.{Ok}
use Rattle.vme_dump_input.specs.DumpBeginnings.{BeginsDump, HoldsDefinitions}
use Rattle.vme_dump_input.specs.declared.definitions.DumpAfterDefinitions.{DumpAfterDefinitions}
use Rattle.vme_part_command.proofs.FoundLemmas.{FindsOfDump-bad_binding}
use Rattle.vme_part_command.proofs.file_body.part_of_begun.Goals as goal

pub part_after_definitions-requires-clause-held : goal.part_after_definitions-requires-clause-held
part_after_definitions-requires-clause-held g c = subst (HoldsDefinitions c.args.input.now) c.in-Body.is c.requires.held

pub returns-in-Body : goal.returns-in-Body
returns-in-Body g c binding old begun limit =
    c.part_after_definitions.ensures binding old
    (subst (λ (b : DumpAfterDefinitions). BeginsDump binding old (g.D.Source.reading c.args.dump.now) c.args.input.now
    (Ok b))
    c.in-Body.is begun) limit

pub returns-in-Unusable : goal.returns-in-Unusable
returns-in-Unusable g c binding old begun limit =
    let (contents, read, is) = subst (λ (b : DumpAfterDefinitions). BeginsDump binding old
    (g.D.Source.reading c.args.dump.now)
    c.args.input.now (Ok b)) c.in-Unusable.is begun in
    FindsOfDump-bad_binding c.args.options binding old (g.D.Source.reading c.args.dump.now) contents read
    c.in-Unusable.fault is
