use Rattle.vme_step_reader.proofs.PieceSteps.{recorded-after_given}
use Rattle.vme_step_reader.proofs.StepTimes.{steps-before_fault, steps-not_earlier, steps-up_to_time, time-not_earlier}
use Rattle.vme_step_reader.proofs.laws.times_go_on.Goals as goal

pub returns : goal.returns
returns c =
    let front = c.recorded_before_is_a_prefix.ensures in
    record {
      follows = λ r rest steps is. steps-not_earlier front r rest steps is;
      within = λ r rest steps is. steps-up_to_time front r rest steps is;
      before = λ r rest steps fault is faulty. steps-before_fault front r rest steps is fault faulty;
      on = λ r rest. let (steps, is) = recorded-after_given front r rest in time-not_earlier front r rest steps is;
    }
