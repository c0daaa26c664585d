-- The loop over the entries: the ways of those so far count the kept nodes alone, and the others are as they were.
use Rattle.std.proofs.Common.{◌≡◌, drop, map, take}
use Rattle.vme_part_tables.specs.Pruned.{entry_kept}
use Rattle.vme_part_tables.proofs.prune.renumber_entries.Given as goal

abbrev pub invariant-loop-entry : goal.invariant-loop-entry
invariant-loop-entry l =
    record {
      done : take l.entry-index l.entries ≡ map (entry_kept l.memories l.keeps) (take l.entry-index l.fn.entries);
      rest : drop l.entry-index l.entries ≡ drop l.entry-index l.fn.entries;
    }
