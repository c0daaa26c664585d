-- The loop over bytes: what follows the spaces and comments of the bytes that are left is what follows those of the
-- text.
use Rattle.std.specs.Prelude.{◌≡◌, false, length}
use Rattle.vme_faults.specs.Files.{after_comments}
use Rattle.vme_faults.proofs.file_kind.after_comments.Given as goal

abbrev pub invariant-loop-rest : goal.invariant-loop-rest
invariant-loop-rest l = after_comments l.is_within l.rest ≡ after_comments false l.text

abbrev pub decreases-loop-rest : goal.decreases-loop-rest
decreases-loop-rest l = length l.rest
