use Rattle.std.proofs.Common.{◌∙◌, ap}
use Rattle.std.specs.Prelude.{Some}
use Rattle.vme_cert.specs.Vocabulary.{Lanes, Levels, lanes_at}
use Rattle.vme_cert.proofs.Following.{data_of-after_start, data_of-at_start}
use Rattle.vme_cert.proofs.rows.answer_data.Goals as goal

pub returns-then-transfer-bus : goal.returns-then-transfer-bus
returns-then-transfer-bus c t stretch end at is =
    ap (λ (x : Lanes). Some x) (c.moved_data.ensures ∙ ap (λ (w : Levels). lanes_at w) at.levels)
    ∙ data_of-at_start t stretch c.args.bus.now.instant c.args.transfer.now is end c.if-not-transfer.false
    c.if-transfer-bus.true

pub returns : goal.returns
returns c t stretch end at is =
    ap (λ (x : Lanes). Some x) (c.moved_data-2.ensures ∙ ap (λ (w : Levels). lanes_at w) at.before)
    ∙ data_of-after_start t stretch c.args.bus.now.instant c.args.transfer.now is end c.if-not-transfer.false
    c.if-transfer-bus.false
