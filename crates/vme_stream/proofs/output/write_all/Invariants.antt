-- The bytes before `rest` were taken.
use Rattle.std.proofs.Common.{◌≡◌, ℕ, List, ◌++◌, length}
use Rattle.std.specs.Io.KnownBytes.{Appends}
use Rattle.vme_stream.proofs.output.write_all.Given as goal

abbrev pub invariant-loop-rest : goal.invariant-loop-rest
invariant-loop-rest g l = (done : List ℕ) × (l.initial.rest ≡ done ++ l.rest)
    × Appends (g.W.Sink.writing l.initial.sink).taken (g.W.Sink.writing l.sink).taken done
    × ((g.W.Sink.writing l.sink).failures ≡ (g.W.Sink.writing l.initial.sink).failures)

abbrev pub decreases-loop-rest : goal.decreases-loop-rest
decreases-loop-rest g l = length l.rest
