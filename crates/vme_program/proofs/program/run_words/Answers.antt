use Rattle.vme_program.proofs.Cases.{IfOk-with}
use Rattle.vme_program.proofs.program.run_words.Goals as goal

pub returns-in-Ok-clause-some : goal.returns-in-Ok-clause-some
returns-in-Ok-clause-some g c more =
    IfOk-with _ _ c.in-Ok.asked c.run_order.result c.in-Ok.ensures.ok c.run_order.ensures.done
