use Rattle.vme_cert.proofs.Following.{transfer_row-answered}
use Rattle.vme_cert.proofs.rows.answered_row.Goals as goal

pub returns : goal.returns
returns c t stretch end edge at opened cycle =
    transfer_row-answered t stretch c.args.bus.now.instant c.args.transfer.now opened end c.direction.result
    c.answer_line.result
    c.args.cycle.now.start c.answer_data.result edge cycle.last c.direction.ensures (c.answer_line.ensures t at)
    (c.answer_data.ensures t stretch end at opened)
