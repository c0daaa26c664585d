use Rattle.std.proofs.Common.{◌+◌, ◌++◌, ◌∷◌, [], drop, sym, ◌∙◌, ap, arith}
use Rattle.vme_bind.specs.BoundGroups.{bound_group_in, bound_groups_in}
use Rattle.vme_bind.proofs.BindingLemmas.{BindFails-first}
use Rattle.vme_bind.proofs.BoundGroupLemmas.{after_bound_groups, bound_groups-first, bound_groups-step}
use Rattle.vme_bind.proofs.BoundGroupLemmas.{bound_groups-end}
use Rattle.vme_bind.proofs.bound_groups.BoundGroup.all.Goals as goal

pub returns-in-Err : goal.returns-in-Err
returns-in-Err c =
    let variables = c.args.variables.now in
    let all = c.args.assignments.now in
    let i = c.loop-assignment.assignment-index in
    let bound_groups = c.loop-assignment.bound_groups.items in
    BindFails-first c.in-Err.field-0 (bound_group_in variables c.assignment-item.result)
    (λ bound_group. after_bound_groups
    (bound_groups ++ bound_group ∷ []) (bound_groups_in variables (drop (i + 1) all))) _
    (sym c.loop-assignment.invariant.bound_groups ∙ bound_groups-first bound_groups variables all i
    c.assignment-item.result c.loop-assignment-test.true c.assignment-item.is) c.in-Err.ensures

pub loop-assignment-preserved : goal.loop-assignment-preserved
loop-assignment-preserved c =
    let variables = c.args.variables.now in
    let all = c.args.assignments.now in
    let i = c.loop-assignment.assignment-index in
    let bound_groups = c.loop-assignment.bound_groups.items in
    record {
      bound_groups =
          ap (λ ws. after_bound_groups ws (bound_groups_in variables (drop (i + 1) all))) c.push_reserved.ensures.items
          ∙ sym (bound_groups-step bound_groups variables all i c.assignment-item.result c.in-Ok.bound_group
          c.loop-assignment-test.true c.assignment-item.is c.in-Ok.ensures)
          ∙ c.loop-assignment.invariant.bound_groups;
      count = omega (arith, c.push_reserved.ensures.len, c.loop-assignment.invariant.count);
      capacity = c.push_reserved.ensures.capacity ∙ c.loop-assignment.invariant.capacity;
    }

pub returns : goal.returns
returns c =
    sym c.loop-assignment.invariant.bound_groups ∙ bound_groups-end c.loop-assignment.bound_groups.items
    c.args.variables.now c.args.assignments.now c.loop-assignment.assignment-index c.loop-assignment-test.false
