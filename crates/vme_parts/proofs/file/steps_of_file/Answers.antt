use Rattle.vme_parts.proofs.OpenedFile.{length-steps_of, malformed_step-of_file}
use Rattle.vme_parts.proofs.file.steps_of_file.Goals as goal

pub returns-clause-formed : goal.returns-clause-formed
returns-clause-formed c =
    rw (c.steps_after_opening.ensures.opening, c.steps_after_opening.ensures.steps)
    (malformed_step-of_file c.args.number c.args.first_time c.args.opening.now c.args.steps.now)

pub returns-clause-few : goal.returns-clause-few
returns-clause-few c =
    rw c.steps_after_opening.ensures.steps (length-steps_of c.args.number c.args.first_time c.args.steps.now)
