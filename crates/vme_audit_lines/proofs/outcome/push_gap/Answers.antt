use Rattle.std.proofs.Common.{append_assoc}
use Rattle.vme_audit_lines.proofs.Lines.{on_ok}
use Rattle.vme_audit_lines.proofs.outcome.push_gap.Goals as goal

pub returns-in_ok-push-in-NeverIdleBehind : goal.returns-in_ok-push-in-NeverIdleBehind
returns-in_ok-push-in-NeverIdleBehind c =
    on_ok c.push_decimal.result _ _ c.push_decimal.ensures.ok (λ last.
    rw (last, c.in_ok-push-in-NeverIdleBehind.ensures.ok, c.in-NeverIdleBehind.is) (simp append_assoc))

pub returns-in_ok-push_decimal-in-FewAnswers-2 : goal.returns-in_ok-push_decimal-in-FewAnswers-2
returns-in_ok-push_decimal-in-FewAnswers-2 c =
    on_ok c.push-in-FewAnswers-3.result _ _ c.push-in-FewAnswers-3.ensures.ok (λ last.
    rw (
      last,
      c.in_ok-push_decimal-in-FewAnswers-2.ensures.ok,
      c.in_ok-push-in-FewAnswers-2.ensures.ok,
      c.in_ok-push_decimal-in-FewAnswers.ensures.ok,
      c.in_ok-push-in-FewAnswers.ensures.ok,
      c.in-FewAnswers.is,
    )
    (simp append_assoc))

pub returns-in_ok-push_decimal-in-Hang-2 : goal.returns-in_ok-push_decimal-in-Hang-2
returns-in_ok-push_decimal-in-Hang-2 c =
    on_ok c.push-in-Hang-3.result _ _ c.push-in-Hang-3.ensures.ok (λ last.
    rw (
      last,
      c.in_ok-push_decimal-in-Hang-2.ensures.ok,
      c.in_ok-push-in-Hang-2.ensures.ok,
      c.in_ok-push_decimal-in-Hang.ensures.ok,
      c.in_ok-push-in-Hang.ensures.ok,
      c.in-Hang.is,
    ) (simp append_assoc))
