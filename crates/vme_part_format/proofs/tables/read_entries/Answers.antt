use Rattle.std.proofs.lemmas.Result.{err_from_is_err_and}
use Rattle.vme_part_format.specs.Reading.{entries_at}
use Rattle.vme_part_format.proofs.Loops.{entries_at-all, entries_at-fails, entries_at-one_more}
use Rattle.vme_part_format.proofs.tables.read_entries.Goals as goal

pub returns-in_err-next : goal.returns-in_err-next
returns-in_err-next c =
    let l = c.loop in
    let p = err_from_is_err_and c.from_residual.result c.from_residual.ensures.1 in
    rw (p.1, p.2)
    (entries_at-fails c.args.listing c.args.steps c.args.ways c.in_err-next.field-0.0 l.entries.items c.args.count
    l.counter
    l.fields (entries_at c.args.listing c.args.steps c.args.ways c.args.count c.args.fields.now) c.loop-test.true
    c.in_err-next.ensures l.invariant)

pub loop-preserved : goal.loop-preserved
loop-preserved c =
    let l = c.loop in
    rw c.in_ok-push.ensures.items
    (entries_at-one_more c.args.listing c.args.steps c.args.ways l.entries.items c.args.count l.counter l.fields
    c.in_ok-next.field-0 c.entry.new.self
    (entries_at c.args.listing c.args.steps c.args.ways c.args.count c.args.fields.now) c.loop-test.true
    c.in_ok-next.ensures l.invariant)

pub returns : goal.returns
returns c =
    let l = c.loop in
    entries_at-all c.args.listing c.args.steps c.args.ways l.entries.items c.args.count l.counter l.fields
    (entries_at c.args.listing c.args.steps c.args.ways c.args.count c.args.fields.now) c.loop-test.false l.invariant
