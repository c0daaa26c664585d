use Rattle.std.proofs.Common.{◌∙◌, List, ap, refl, sym}
use Rattle.vcd_read.specs.declared.dump.Variable.{Variable}
use Rattle.vme_declarations.specs.Scopes.{has_scope, sought_in}
use Rattle.vme_declarations.specs.Surveys.{variables_by}
use Rattle.vcd_read.proofs.DefinedLemmas.{HasHeader-visited}
use Rattle.vme_declarations.proofs.ScopeLemmas.{has_scope-sought}
use Rattle.vme_declarations.proofs.scope_search.has_scope.Goals as goal

pub returns-in-Ok : goal.returns-in-Ok
returns-in-Ok c =
    let path = c.args.path.now in
    let (variables, whole, taken) = HasHeader-visited sought_in c.front.result.now c.in-Ok.field-0-0 _ _
    c.in-Ok.ensures in
    sym (ap (λ (vs : List Variable). has_scope path vs) (sym c.front.ensures.variables ∙ ap variables_by whole)
    ∙ has_scope-sought path _ _ _ c.in-Ok.search.is_found variables c.in_ok-dotted_path.ensures taken refl)
