use Rattle.std.proofs.Common.{◌≡◌, ℕ, ◌∙◌, sym, ap, subst, length, rules, true, false}
use Rattle.std.specs.Prelude.{◌==◌}
use Rattle.std.specs.List.Sorted.{IsNonDecreasing}
use Rattle.std.proofs.lemmas.List.Sorted.{IsNonDecreasingBy-from_sort_by_key}
use Rattle.vme_bind.proofs.EndLemmas.{one_step, step_between-none, step_between-some}
use Rattle.vme_skew.specs.Group.{ListsTouchedLines}
use Rattle.vme_skew.proofs.Grouping.{KeepsTouchedLines-begun, Contains-marked_permuted, step_between-of_group}
use Rattle.vme_skew.proofs.TouchedLines.{ListsTouchedLines-permuted}
use Rattle.vme_skew.proofs.group.StepGroup.end.Goals as goal

pub show-requires-clause-sorted : goal.show-requires-clause-sorted
show-requires-clause-sorted c =
    subst IsNonDecreasing (sym c.deref.ensures.value) (IsNonDecreasingBy-from_sort_by_key (λ (x : ℕ). x) _
    c.sort_unstable_by_key.ensures.sorted (λ a r q k. search rules))

pub show-requires-clause-touched : goal.show-requires-clause-touched
show-requires-clause-touched c =
    subst (ListsTouchedLines c.self.inside.before c.self.inside.now) (sym c.deref.ensures.value)
    (ListsTouchedLines-permuted c.self.inside.before c.self.inside.now c.self.inside.touched.items
    c.sort_unstable_by_key.new.self.items c.self.invariant.lists c.sort_unstable_by_key.ensures.permutation)

pub invariant_of-self : goal.invariant_of-self
invariant_of-self c = record {
  lists = subst (ListsTouchedLines c.show.new.before c.self.inside.now) c.deref.ensures.value c.show.ensures.touched;
  marked = Contains-marked_permuted c.self.inside.touched.items c.sort_unstable_by_key.new.self.items
      c.self.inside.marked
      c.sort_unstable_by_key.ensures.permutation c.self.invariant.marked;
}

pub invariant_of-self-then-is_empty : goal.invariant_of-self-then-is_empty
invariant_of-self-then-is_empty c =
    KeepsTouchedLines-begun c.show.new.before c.self.inside.now c.clear.new.self.items c.none-self-inside.result
    c.in_ok-changes.ensures.before c.self.invariant.lists.now_all c.clear.ensures.items c.none-self-inside.ensures

pub invariant_of-self-2 : goal.invariant_of-self-2
invariant_of-self-2 c =
    KeepsTouchedLines-begun c.show.new.before c.self.inside.now c.clear.new.self.items c.none-self-inside.result
    c.in_ok-changes.ensures.before c.self.invariant.lists.now_all c.clear.ensures.items c.none-self-inside.ensures

pub returns-then-is_empty-clause-step : goal.returns-then-is_empty-clause-step
returns-then-is_empty-clause-step c =
    let inside = c.self.inside in
    let none : (length c.in_ok-changes.changes.items == 0) ≡ true = search rules in
    sym (step_between-none inside.start inside.before inside.now c.in_ok-changes.changes.items
    c.in_ok-changes.ensures.changes
    none)
    ∙ step_between-of_group c.args.self.now inside.start inside.before inside.now (search rules)

pub returns-clause-step : goal.returns-clause-step
returns-clause-step c =
    let inside = c.self.inside in
    let some : (length c.in_ok-changes.changes.items == 0) ≡ false = search rules in
    ap (one_step inside.start) c.new.ensures
    ∙ step_between-some inside.start inside.before inside.now c.in_ok-changes.changes.items
    c.in_ok-changes.ensures.changes some
    ∙ step_between-of_group c.args.self.now inside.start inside.before inside.now (search rules)
