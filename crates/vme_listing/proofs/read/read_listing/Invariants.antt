-- The rows so far were read.
use Rattle.std.proofs.Common.{length}
use Rattle.vme_listing.specs.Reading.{HasRead}
use Rattle.vme_listing.proofs.read.read_listing.Given as goal

abbrev pub invariant-loop-rows : goal.invariant-loop-rows
invariant-loop-rows l = HasRead l.text l.rows.items l.reader

abbrev pub decreases-loop-rows : goal.decreases-loop-rows
decreases-loop-rows l = length l.reader.rest
