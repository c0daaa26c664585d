-- The loop over the parts: those so far are of the backplane, and have marks exactly if `listing` says so.
use Rattle.std.proofs.Common.{map, take}
use Rattle.std.specs.Prelude.{All}
use Rattle.vme_part_format.specs.Tables.{part_value}
use Rattle.vme_parts.specs.Alike.{IsLike}
use Rattle.vme_parts.proofs.join.check_alike.Given as goal

abbrev pub invariant-loop-place : goal.invariant-loop-place
invariant-loop-place l = All (IsLike l.backplane l.listing) (take l.place (map part_value l.parts))
