use Rattle.std.proofs.Common.{◌∙◌, ap, sym}
use Rattle.std.specs.Prelude.{if◌then◌else◌}
use Rattle.vme_cert.specs.Vocabulary.{Direction, PendingTransfer, Read, Write}
use Rattle.vme_cert.proofs.Following.{WithTransfer-begins, WithTransfer-idle}
use Rattle.vme_cert.proofs.open_rows.OpenRows.begin_transfer.Goals as goal

pub returns-then-not-transfer_starts-clause-rows : goal.returns-then-not-transfer_starts-clause-rows
returns-then-not-transfer_starts-clause-rows g c whole v done t stretch within h =
    WithTransfer-idle c.args.bus.now.instant within.is within.judged h
    (sym (c.transfer_starts.ensures t within.at) ∙ c.if-not-transfer_starts.true)

pub returns-clause-rows : goal.returns-clause-rows
returns-clause-rows g c whole v done t stretch within h =
    WithTransfer-begins c.args.bus.now.instant within.is within.judged h
    (sym (c.transfer_starts.ensures t within.at) ∙ c.if-not-transfer_starts.false) c.begin.ensures
    (ap (λ (d : Direction). PendingTransfer c.args.bus.now.instant d)
    (c.direction.ensures ∙ ap (λ b. if b then Write else Read) (c.low.ensures t within.at)))
