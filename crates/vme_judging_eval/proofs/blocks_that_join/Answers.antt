use Rattle.std.proofs.Common.{refl, [], ◌∷◌}
use Rattle.vme_trace.specs.Trace.{changed}
use Rattle.vme_summary.proofs.Chains.{BlocksJoin-from_GoOn}
use Rattle.vme_judging_eval.specs.WorkedBlocks.{first, next, empty, after_empty, on_slots}
use Rattle.vme_judging_eval.proofs.blocks_that_join.Goals as goal

pub returns-clause-later : goal.returns-clause-later
returns-clause-later c = BlocksJoin-from_GoOn first (next 11 ∷ []) (refl, refl, refl, tt)

pub returns-clause-across_empty : goal.returns-clause-across_empty
returns-clause-across_empty c = BlocksJoin-from_GoOn first (empty ∷ after_empty 11 ∷ [])
    (refl, refl, refl, (refl, refl, refl, tt))

pub returns-clause-same_slots : goal.returns-clause-same_slots
unfolding changed
returns-clause-same_slots c = BlocksJoin-from_GoOn first (on_slots 3 ∷ []) (refl, refl, refl, tt)
