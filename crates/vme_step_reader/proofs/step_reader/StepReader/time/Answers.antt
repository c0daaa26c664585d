use Rattle.std.proofs.Common.{◌∙◌, ap, sym}
use Rattle.vme_step_reader.specs.StepReading.{StepReading}
use Rattle.vme_step_reader.proofs.PieceSteps.{time-whole_reading}
use Rattle.vme_step_reader.proofs.step_reader.StepReader.time.Goals as goal

pub returns : goal.returns
returns c = c.time.ensures ∙ ap (λ (r : StepReading). r.speculative.body.progress.time) c.self.view_is
    ∙ sym (time-whole_reading c.args.self.now)
