-- The body is compared, or the binding can't be used on the dump.
use Rattle.std.proofs.Common.{[], ap, subst, sym, ◌∙◌}
use Rattle.std.specs.Prelude.{Ok}
use Rattle.vme_dump_input.specs.BufferedInputs.{InputSoFar}
use Rattle.vme_dump_input.specs.DumpBeginnings.{BeginsDump, HoldsDefinitions, IsAtBody}
use Rattle.vme_dump_input.specs.declared.definitions.DumpAfterDefinitions.{DumpAfterDefinitions}
use Rattle.vme_dump_input.specs.SettledReadings.{skew_of}
use Rattle.vme_dump_input.proofs.DefinitionLemmas.{IsAtBody-definitions}
use Rattle.vme_confirm_command.proofs.body.compare_with_rows.Goals as goal

pub take_first-requires : goal.take_first-requires
take_first-requires g c = subst (HoldsDefinitions c.args.input.now) c.in-Body.is c.requires.held

pub compare_body-requires : goal.compare_body-requires
compare_body-requires g c =
    (skew_of c.args.skew, c.in-Body.reader.given, c.first_check-check.ensures.checked)

pub returns-in-Body : goal.returns-in-Body
returns-in-Body g c binding old whole gave begun limit =
    let now = g.D.Source.reading c.args.dump.now in
    let input = c.args.input.now in
    let r = c.in-Body.reader in
    let at = subst (λ (b : DumpAfterDefinitions). BeginsDump binding old now input (Ok b)) c.in-Body.is begun in
    c.compare_body.ensures binding old c.args.skew r.given whole c.args.version
    c.first_check-check.ensures.checked (c.first_check-check.ensures.compared whole gave)
    (subst (λ (i : InputSoFar). IsAtBody binding old now i r) (sym c.take_first.ensures)
    (IsAtBody-definitions binding old now input r c.in-Body.count at))
    (ap (λ (i : InputSoFar). i.limit) c.take_first.ensures ∙ limit)

pub returns-in-Unusable : goal.returns-in-Unusable
returns-in-Unusable g c binding old whole gave begun limit =
    let (contents, read, is) = subst (λ (b : DumpAfterDefinitions). BeginsDump binding old
    (g.D.Source.reading c.args.dump.now)
    c.args.input.now (Ok b)) c.in-Unusable.is begun in
    (contents, read, (is, ([], gave)))
