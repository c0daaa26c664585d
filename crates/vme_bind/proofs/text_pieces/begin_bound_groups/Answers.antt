use Rattle.vcd_read.specs.Reached.{reached}
use Rattle.vme_bind.specs.BuilderState.{BuilderState}
use Rattle.vme_bind.proofs.TextPieceLemmas.{body_outcome-begun}
use Rattle.vme_bind.proofs.TextReadingLemmas.{malformed_step-begun, or_fault-begun}
use Rattle.vme_bind.proofs.text_pieces.begin_bound_groups.Goals as goal

pub returns-in-Ok-clause-rest : goal.returns-in-Ok-clause-rest
returns-in-Ok-clause-rest g c = λ more.
    let read = c.before_body-body_reader.ensures in
    body_outcome-begun c.args.fault c.args.lines.now.slots c.args.bound_groups.now c.args.front.head c.in-Ok.made
    (reached (λ (made : BuilderState). made) c.before_body-body_reader.result.0) _ more
    c.in-Ok.ensures read.nets read.progress read.dump_section read.place read.body

pub returns-in-Ok-clause-reading : goal.returns-in-Ok-clause-reading
returns-in-Ok-clause-reading g c = λ more.
    let read = c.before_body-body_reader.ensures in
    or_fault-begun c.args.fault c.args.lines.now.slots c.args.bound_groups.now c.args.front.head c.in-Ok.made
    (reached (λ (made : BuilderState). made) c.before_body-body_reader.result.0) _ more
    c.in-Ok.ensures read.nets read.progress read.dump_section read.place read.body

pub returns-in-Ok-clause-formed : goal.returns-in-Ok-clause-formed
returns-in-Ok-clause-formed g c = λ ts more.
    let read = c.before_body-body_reader.ensures in
    malformed_step-begun c.args.lines.now.slots c.args.bound_groups.now c.in-Ok.made
    (reached (λ (made : BuilderState). made) c.before_body-body_reader.result.0) ts more
    c.in-Ok.ensures read.progress read.dump_section read.place
