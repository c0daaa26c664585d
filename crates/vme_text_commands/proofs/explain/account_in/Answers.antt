use Rattle.vme_text_commands.proofs.ExplainLemmas.{GivesAccount-too_long, GivesAccount-too_many_blocks, GivesAccount-of}
use Rattle.vme_text_commands.proofs.explain.account_in.Goals as goal

pub returns-in-Ok : goal.returns-in-Ok
returns-in-Ok c = λ formed.
    GivesAccount-of c.args.visitor c.in-Ok.account c.in-Ok.ensures.short (c.in-Ok.ensures.account formed)

pub returns-in-Err-TooManySteps : goal.returns-in-Err-TooManySteps
returns-in-Err-TooManySteps c = λ formed.
    rw c.of_judging.ensures
    (GivesAccount-too_long c.args.visitor
    (c.finish.ensures.too_many_steps (rw c.in-Err-TooManySteps.field-0-is at c.in-Err-TooManySteps.is)))

pub returns-in-Err-TooManyBlocks : goal.returns-in-Err-TooManyBlocks
returns-in-Err-TooManyBlocks c = λ formed.
    let many = c.finish.ensures.too_many_blocks (rw c.in-Err-TooManyBlocks.field-0-is at c.in-Err-TooManyBlocks.is) in
    GivesAccount-too_many_blocks c.args.visitor many.0 many.1
