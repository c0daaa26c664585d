use Rattle.std.proofs.Common.{append_assoc}
use Rattle.vme_audit_lines.proofs.dump_lines.break_line.Goals as goal

pub returns : goal.returns
returns c =
    rw (
      c.in_ok-push-8.ensures.ok,
      c.in_ok-push-7.ensures.ok,
      c.in_ok-push-6.ensures.ok,
      c.in_ok-push_decimal-2.ensures.ok,
      c.in_ok-push-5.ensures.ok,
      c.in_ok-push_decimal.ensures.ok,
      c.in_ok-push-4.ensures.ok,
      c.in_ok-push-3.ensures.ok,
      c.in_ok-push-2.ensures.ok,
      c.in_ok-push.ensures.ok,
      c.new-text.ensures,
      c.category_name.ensures,
      c.as_bytes.ensures.bytes,
      c.name-rule.ensures,
      c.as_bytes-2.ensures.bytes,
      c.name-line.ensures,
    ) (simp append_assoc)
