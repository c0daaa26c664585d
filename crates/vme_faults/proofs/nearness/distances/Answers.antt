use Rattle.std.proofs.Common.{◌+◌, ◌<◌, ◌≤◌, ◌∷◌, [], List, drop, length, arith, rules, append_assoc}
use Rattle.std.proofs.lemmas.Grind.{common_steps}
use Rattle.vme_faults.proofs.NearnessLemmas.{distances-end, distances-more}
use Rattle.vme_faults.specs.Nearness.{distances}
use Rattle.vme_faults.specs.declared.nearness.VariableDistance.{VariableDistance}
use Rattle.vme_faults.proofs.nearness.distances.Goals as goal

pub loop-place-preserved : goal.loop-place-preserved
loop-place-preserved c =
    let place = c.loop-place.place in
    let rest : List VariableDistance = distances c.args.path.now (drop (place + 1) c.args.variables.now) (place + 1) in
    let near : VariableDistance = record { distance = c.path_distance.result; place = place } in
    let h : place < length c.args.variables.now = first_of (omega arith, search rules) in
    let e = distances-more c.args.path.now c.args.variables.now place c.index-variables-place.result h in
    let a = append_assoc c.loop-place.all.items (near ∷ []) rest in
    first_of (
      grind (arith, common_steps, e, a),
      cc (
        c.in_ok-push.ensures.items,
        e,
        a,
        c.loop-place.invariant,
        c.index-variables-place.is,
        c.path_distance.ensures,
      ),
      search (rules, e, a),
    )

pub returns : goal.returns
returns c =
    let h : length c.args.variables.now ≤ c.loop-place.place = first_of (omega arith, search rules) in
    let e = distances-end c.args.path.now c.args.variables.now c.loop-place.place h in
    first_of (grind (arith, common_steps, e), search (rules, e))
