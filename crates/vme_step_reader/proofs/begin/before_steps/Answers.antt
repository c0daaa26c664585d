use Rattle.vme_bind.specs.TextPieces.{text_reached}
use Rattle.vme_step_reader.proofs.PieceSteps.{malformed_step-begun, malformed_step-no_steps}
use Rattle.vme_step_reader.proofs.begin.before_steps.Goals as goal

pub returns-clause-formed : goal.returns-clause-formed
returns-clause-formed c = malformed_step-no_steps c.into_speculative-speculative.result.1.opening c.new.result.items
    c.new.ensures

pub returns-clause-sound : goal.returns-clause-sound
returns-clause-sound c = malformed_step-begun (text_reached c.args.text) c.into_speculative-speculative.result.0
    c.into_speculative-speculative.result.1.opening c.into_speculative-speculative.result.1.steps.items
    c.new.result.items c.into_speculative-speculative.ensures
    c.requires.none c.new.ensures c.requires.formed
