-- The lines so far have the levels that the piece leaves.
use Rattle.vme_bind.proofs.AssignedLineLemmas.{AreLevelsAfterBelow}
use Rattle.vme_bind.proofs.speculative_reader.SpeculativeChunk.levels_at_end.Given as goal

abbrev pub invariant-loop-number : goal.invariant-loop-number
invariant-loop-number l = AreLevelsAfterBelow l.self l.levels l.number l.behind
