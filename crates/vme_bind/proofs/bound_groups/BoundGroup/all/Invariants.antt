-- The assignments so far have their bound groups: with those of the rest they are the bound groups of all.
use Rattle.std.proofs.Common.{◌≡◌, drop, length, vec_len, vec_capacity}
use Rattle.vme_bind.specs.BoundGroups.{bound_groups_in}
use Rattle.vme_bind.proofs.BoundGroupLemmas.{after_bound_groups}
use Rattle.vme_bind.proofs.bound_groups.BoundGroup.all.Given as goal

abbrev pub invariant-loop-assignment : goal.invariant-loop-assignment
invariant-loop-assignment l = record {
  bound_groups : after_bound_groups l.bound_groups.items
      (bound_groups_in l.variables (drop l.assignment-index l.assignments)) ≡ bound_groups_in l.variables l.assignments;
  count : vec_len l.bound_groups ≡ l.assignment-index;
  capacity : vec_capacity l.bound_groups ≡ length l.assignments;
}
