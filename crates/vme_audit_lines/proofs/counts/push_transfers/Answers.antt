use Rattle.std.proofs.Common.{append_assoc}
use Rattle.vme_audit_lines.proofs.Lines.{on_ok}
use Rattle.vme_audit_lines.proofs.counts.push_transfers.Goals as goal

pub returns : goal.returns
returns c =
    on_ok c.push_number-5.result _ _ c.push_number-5.ensures (λ last.
    rw (
      last,
      c.in_ok-push_number-4.ensures,
      c.in_ok-push_number-3.ensures,
      c.in_ok-push_number-2.ensures,
      c.in_ok-push_number.ensures,
      c.in_ok-push_sum.ensures,
      c.in_ok-push.ensures.ok,
      c.from.ensures,
      c.from-2.ensures,
    )
    (simp append_assoc))
