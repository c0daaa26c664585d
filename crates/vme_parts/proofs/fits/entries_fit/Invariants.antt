-- The loop over the entries of a table: those so far are within their bounds.
use Rattle.std.proofs.Common.{take}
use Rattle.std.specs.Prelude.{All}
use Rattle.vme_part_format.specs.Bounds.{FitsEntry}
use Rattle.vme_parts.proofs.fits.entries_fit.Given as goal

abbrev pub invariant-loop-entry : goal.invariant-loop-entry
invariant-loop-entry l = All (FitsEntry l.steps l.ways) (take l.entry-index l.entries)
