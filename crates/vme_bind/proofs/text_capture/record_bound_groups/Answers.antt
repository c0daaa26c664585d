use Rattle.vme_bind.proofs.text_capture.record_bound_groups.Goals as goal

pub returns-in-Ok : goal.returns-in-Ok
returns-in-Ok g c = c.record_body.ensures c.args.lines.now.slots c.args.bound_groups.now c.in-Ok.ensures
