use Rattle.vme_confirm_command.proofs.step_check.StepCheck.into_source.Goals as goal

pub returns : goal.returns
returns g c whole version h = c.into_source.ensures whole version h.t h.taken h.compared
