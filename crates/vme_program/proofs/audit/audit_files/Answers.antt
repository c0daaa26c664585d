use Rattle.std.proofs.Common.{inr, subst, sym}
use Rattle.vme_program.specs.Audits.{AreAllowed}
use Rattle.vme_program.proofs.audit.audit_files.Goals as goal

pub returns-in-Ok-clause-audited : goal.returns-in-Ok-clause-audited
returns-in-Ok-clause-audited g c =
    inr (
      c.as_slice-allowed.result.now,
      subst (AreAllowed c.args.order.now) (sym c.as_slice-allowed.ensures.value) c.in-Ok.ensures.allowed,
      c.audit_binding.ensures,
    )
