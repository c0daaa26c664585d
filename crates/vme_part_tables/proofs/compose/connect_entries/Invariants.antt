-- The loop over the entries of the first table: those so far are continued in the second table, and the others are as
-- they were.
use Rattle.std.proofs.Common.{◌≡◌, drop, map, take}
use Rattle.vme_part_tables.specs.Composed.{entry_on}
use Rattle.vme_part_tables.proofs.compose.connect_entries.Given as goal

abbrev pub invariant-loop-entry : goal.invariant-loop-entry
invariant-loop-entry l =
    record {
      done : take l.entry-index l.entries
          ≡ map (entry_on l.second l.steps l.between) (take l.entry-index l.fn.entries);
      rest : drop l.entry-index l.entries ≡ drop l.entry-index l.fn.entries;
    }
