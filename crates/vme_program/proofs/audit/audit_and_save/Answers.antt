use Rattle.std.proofs.Common.{inl, inr, refl}
use Rattle.vme_program.proofs.audit.audit_and_save.Goals as goal

pub returns-then-leads_to_input : goal.returns-then-leads_to_input
returns-then-leads_to_input g c =
    inr (
      c.in-Some.id,
      c.in-Some.ensures,
      inl (c.leads_to_input.ensures.yes c.if-leads_to_input.true, refl, c.refuse_file.ensures),
    )
