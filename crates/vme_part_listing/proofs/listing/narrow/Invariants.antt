-- The loop over marks: those so far are written with numbers of 32 bits.
use Rattle.std.proofs.Common.{◌≡◌, map, take}
use Rattle.vme_part_tables.specs.Runs.{mark_of}
use Rattle.vme_part_listing.proofs.listing.narrow.Given as goal

abbrev pub invariant-loop-mark : goal.invariant-loop-mark
invariant-loop-mark l = l.all.items ≡ map mark_of (take l.mark-index l.marks)
