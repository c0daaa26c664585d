-- The loop over the marks: those read so far, before what is read of the rest, are what is read of all.
use Rattle.std.proofs.Common.{◌≡◌, ◌-◌}
use Rattle.vme_part_format.specs.Reading.{after_items, marks_at}
use Rattle.vme_part_format.proofs.marks.read_marks.Given as goal

abbrev pub invariant-loop : goal.invariant-loop
invariant-loop l =
    after_items l.marks.items (marks_at l.steps l.before (l.count - l.counter) l.fields)
    ≡ marks_at l.steps 0 l.count l.fn.fields
