use Rattle.std.proofs.Common.{refl}
use Rattle.vme_cert.specs.Checking.{at_opening}
use Rattle.vme_dump_input.proofs.FirstSteps.{ComesOut-no_step}
use Rattle.vme_confirm_command.proofs.step_check.StepCheck.new.Goals as goal

pub returns-clause-stepped : goal.returns-clause-stepped
returns-clause-stepped g c time =
    let opening = c.args.opening.now in
    record {
      counted = refl;
      comes = λ _.
          ComesOut-no_step c.args.skew opening time (at_opening opening) refl refl c.settler_for.result
          c.settler_for.ensures;
      taken = c.new.ensures.taken;
    }
