use Rattle.std.proofs.Common.{refl, ap, ◌≡◌, false, true, [], ◌∷◌}
use Rattle.std.specs.Prelude.{◌==◌}
use Rattle.vme_trace.specs.LineNumbers.{DS0}
use Rattle.vme_trace.specs.Levels.{level_at}
use Rattle.vme_trace.specs.Trace.{changed}
use Rattle.vme_trace.specs.declared.level.Level.TheVariants.{High, Unknown}
use Rattle.vme_summary.proofs.Chains.{BlocksJoin-from_GoOn}
use Rattle.vme_judging_eval.specs.WorkedBlocks.{after_empty, empty, first, next, on_other_lines, on_slots}
use Rattle.vme_judging_eval.proofs.blocks_that_are_torn.Goals as goal

pub returns-clause-by_number : goal.returns-clause-by_number
returns-clause-by_number c j =
    let number : true ≡ false = ap (λ n. n == 2) (j.follow [] [] first (after_empty 11) refl).numbered in
    cc

pub returns-clause-by_lines : goal.returns-clause-by_lines
unfolding changed
returns-clause-by_lines c j =
    let same = (j.follow [] [] first on_other_lines refl).opened in
    let level : Unknown ≡ High = ap (λ v. level_at v DS0) same in
    cc

pub returns-clause-by_slots : goal.returns-clause-by_slots
unfolding changed
returns-clause-by_slots c j =
    let same = (j.follow [] [] first (on_slots 2) refl).opened in
    let slots : true ≡ false = ap (λ v. v.slots == 2) same in
    cc

pub returns-clause-by_time : goal.returns-clause-by_time
returns-clause-by_time c j = let later : false ≡ true = (j.follow [] [] first (next 10) refl).later in cc

pub returns-clause-before_empty : goal.returns-clause-before_empty
returns-clause-before_empty c = BlocksJoin-from_GoOn first (empty ∷ []) (refl, refl, refl, tt)

pub returns-clause-after_empty : goal.returns-clause-after_empty
returns-clause-after_empty c = BlocksJoin-from_GoOn empty (after_empty 10 ∷ []) (refl, refl, refl, tt)

pub returns-clause-across_empty : goal.returns-clause-across_empty
returns-clause-across_empty c j =
    let later : false ≡ true = (j.follow (first ∷ []) [] empty (after_empty 10) refl).later in
    cc
