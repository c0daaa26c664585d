use Rattle.std.proofs.Common.{refl, append_assoc}
use Rattle.std.proofs.lemmas.Bool.{ne_eqb}
use Rattle.vme_audit_lines.proofs.Lines.{on_ok}
use Rattle.vme_audit_lines.proofs.outcome.push_conforming.Goals as goal

pub returns-then-allowed-eq0 : goal.returns-then-allowed-eq0
returns-then-allowed-eq0 c = on_ok c.push.result _ _ c.push.ensures.ok (λ last. rw (last, c.if-allowed-eq0.true) refl)

pub returns-else-allowed-eq0 : goal.returns-else-allowed-eq0
returns-else-allowed-eq0 c =
    on_ok c.push_allowed.result _ _ c.push_allowed.ensures (λ last.
    rw (last, ne_eqb c.args.allowed 0 c.if-allowed-eq0.false) (simp append_assoc))
