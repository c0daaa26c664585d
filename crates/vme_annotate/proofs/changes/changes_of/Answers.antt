use Rattle.std.proofs.Common.{rules}
use Rattle.std.proofs.lemmas.Fn.{always_returns_same}
use Rattle.std.proofs.lemmas.List.Sorted.{IsNonDecreasingBy-from_sort_by_key}
use Rattle.vme_annotate.specs.declared.changes.PlannedChange.{PlannedChange}
use Rattle.vme_annotate.proofs.PlannedLemmas.{ArePlanned-sorted}
use Rattle.vme_annotate.proofs.changes.changes_of.Goals as goal

pub returns : goal.returns
returns c =
    let sort = c.in_ok-sort_by_key.ensures in
    ArePlanned-sorted c.args.rows.now c.in_ok-changes.changes.items c.sort_by_key.new.self.items c.in_ok-changes.ensures
    sort.permutation
    (IsNonDecreasingBy-from_sort_by_key (λ (change : PlannedChange). change.instant) _ sort.sorted
    (λ a r q k. search rules))
    (sort.stable (λ (change : PlannedChange). change.instant)
    (always_returns_same _ _ _ (λ a r q k. search rules)))
