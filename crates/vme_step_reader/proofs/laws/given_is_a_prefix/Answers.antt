use Rattle.vme_step_reader.proofs.PieceSteps.{recorded-after_given}
use Rattle.vme_step_reader.proofs.laws.given_is_a_prefix.Goals as goal

pub returns : goal.returns
returns c r rest = recorded-after_given c.recorded_before_is_a_prefix.ensures r rest
