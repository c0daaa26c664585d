use Rattle.std.proofs.Common.{rules, ◌≡◌, Some}
use Rattle.vme_program.proofs.audit.leads_to_input.Goals as goal

pub returns-else-eq-clause-no : goal.returns-else-eq-clause-no
returns-else-eq-clause-no g c = λ no.
    let other : c.in-Some.id ≡ c.args.binding → ⊥ = search rules in
    (Some c.in-Some.id, c.in-Some.ensures, (other, c.is_a_dump.ensures.no no))
