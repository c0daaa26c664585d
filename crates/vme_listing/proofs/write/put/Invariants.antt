-- The bytes that aren't in `rest` any more were written, and no write has failed.
use Rattle.std.proofs.Common.{◌≡◌, ℕ, List, ◌++◌, length}
use Rattle.std.specs.Io.KnownBytes.{Appends}
use Rattle.vme_listing.proofs.write.put.Given as goal

abbrev pub invariant-loop-rest : goal.invariant-loop-rest
invariant-loop-rest g l =
    (done : List ℕ) × (l.bytes ≡ done ++ l.rest) × Appends (g.W.Sink.writing l.initial.sink).taken
    (g.W.Sink.writing l.sink).taken done
    × ((g.W.Sink.writing l.sink).failures ≡ (g.W.Sink.writing l.initial.sink).failures)

abbrev pub decreases-loop-rest : goal.decreases-loop-rest
decreases-loop-rest g l = length l.rest
