use Rattle.std.proofs.Common.{◌-◌, ◌+◌}
use Rattle.std.proofs.lemmas.Result.{err_from_is_err_and}
use Rattle.vme_part_format.specs.Reading.{marks_at}
use Rattle.vme_part_format.proofs.Loops.{after_items-all, after_items-fails, after_items-one_more, marks_at-fails}
use Rattle.vme_part_format.proofs.Loops.{marks_at-all, marks_at-one_more}
use Rattle.vme_part_format.proofs.marks.read_marks.Goals as goal

pub returns-in_err-instant : goal.returns-in_err-instant
returns-in_err-instant c =
    let l = c.loop in
    let p = err_from_is_err_and c.from_residual.result c.from_residual.ensures.1 in
    rw (p.1, p.2)
    (after_items-fails c.in_err-instant.field-0.0 l.marks.items
    (marks_at c.args.steps l.before (c.args.count - l.counter) l.fields)
    (marks_at c.args.steps 0 c.args.count c.args.fields.now)
    (marks_at-fails c.args.steps c.in_err-instant.field-0.0 l.before c.args.count l.counter l.fields c.loop-test.true
    c.in_err-instant.ensures) l.invariant)

pub loop-preserved : goal.loop-preserved
loop-preserved c =
    let l = c.loop in
    let m = c.in_ok-instant.field-0 in
    rw c.in_ok-push.ensures.items
    (after_items-one_more l.marks.items m (marks_at c.args.steps l.before (c.args.count - l.counter) l.fields)
    (marks_at c.args.steps m.instant (c.args.count - (l.counter + 1)) c.read_mark.new.fields)
    (marks_at c.args.steps 0 c.args.count c.args.fields.now)
    (marks_at-one_more c.args.steps l.before c.args.count l.counter l.fields m c.read_mark.new.fields c.loop-test.true
    c.in_ok-instant.ensures) l.invariant)

pub returns : goal.returns
returns c =
    let l = c.loop in
    after_items-all l.marks.items l.fields (marks_at c.args.steps l.before (c.args.count - l.counter) l.fields)
    (marks_at c.args.steps 0 c.args.count c.args.fields.now)
    (marks_at-all c.args.steps l.before c.args.count l.counter l.fields c.loop-test.false) l.invariant
