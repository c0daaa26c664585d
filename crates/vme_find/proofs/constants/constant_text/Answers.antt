use Rattle.vme_find.proofs.ConstantTextLemmas.{binds-constants, pushed-is_whole_text}
use Rattle.vme_find.proofs.constants.constant_text.Goals as goal

pub returns : goal.returns
returns c =
    rw (
      c.in_ok-push-3.ensures.ok,
      c.in_ok-push-2.ensures.ok,
      c.in_ok-push_decimal.ensures.ok,
      c.in_ok-push.ensures.ok,
      c.new-text.ensures,
      c.from.ensures,
      pushed-is_whole_text c.args.slots,
    ) (binds-constants c.args.slots c.requires.0 c.requires.1)
