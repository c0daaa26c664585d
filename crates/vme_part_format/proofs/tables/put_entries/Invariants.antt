-- The loop over the entries: what is written, and then the bytes of those that are left, is all that is to be written.
use Rattle.std.proofs.Common.{◌≡◌, ◌++◌, drop}
use Rattle.std.specs.Prelude.{flat_map}
use Rattle.vme_part_format.specs.PartText.{entry_bytes}
use Rattle.vme_part_format.proofs.tables.put_entries.Given as goal

abbrev pub invariant-loop-entry : goal.invariant-loop-entry
invariant-loop-entry l =
    l.out.items ++ flat_map (entry_bytes l.listing) (drop l.entry-index l.entries)
    ≡ l.fn.out.items ++ flat_map (entry_bytes l.listing) l.entries
