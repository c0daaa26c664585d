-- The places so far are empty.
use Rattle.std.proofs.Common.{◌≡◌, All, None}
use Rattle.vme_text_workers.proofs.detached.empty_places.Given as goal

abbrev pub invariant-loop : goal.invariant-loop
invariant-loop g l = All (λ one. one ≡ None) l.all.items
