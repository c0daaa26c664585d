-- The loop over the entries: those read so far, before what is read of the rest, are what is read of all.
use Rattle.std.proofs.Common.{◌≡◌, ◌-◌}
use Rattle.vme_part_format.specs.Reading.{after_items, entries_at}
use Rattle.vme_part_format.proofs.tables.read_entries.Given as goal

abbrev pub invariant-loop : goal.invariant-loop
invariant-loop l =
    after_items l.entries.items (entries_at l.listing l.steps l.ways (l.count - l.counter) l.fields)
    ≡ entries_at l.listing l.steps l.ways l.count l.fn.fields
