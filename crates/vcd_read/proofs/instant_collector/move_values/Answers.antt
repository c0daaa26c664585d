use Rattle.std.proofs.Common.{◌≡◌, ◌<◌, None, Some, length, get_or, sym, ◌∙◌, arith}
use Rattle.std.proofs.lemmas.List.{get_or_read}
use Rattle.vcd_read.proofs.ChangedNetLemmas.{IsMoved-some, IsMoved-none, IsMoved-all}
use Rattle.vcd_read.proofs.instant_collector.move_values.Goals as goal
use Rattle.vcd_read.proofs.instant_collector.move_values.Goals.{in-Some, in_default}

pub loop-net-preserved : goal.loop-net-preserved
loop-net-preserved c =
    let changed_nets = c.args.changed_nets.now in
    let place = c.loop-net.net-index in
    let start = c.args.current.now.items in
    let current = c.loop-net.current.items in
    let moved = c.loop-net.values.items in
    let h = c.loop-net.invariant.moved in
    let lt : get_or changed_nets place 0 < length current = let below = c.requires.changed_nets.below place 0
    c.loop-net-test.true in omega (arith, h.room) in
    let at : c.index_mut.result.now ≡ get_or current (get_or changed_nets place 0) None = get_or_read current
    (get_or changed_nets place 0) c.index_mut.result.now lt c.index_mut.ensures.value None in
    elim c.match-take.branch [
      | in-Some w ↦
          let is : get_or current (get_or changed_nets place 0) None ≡ Some w.in-Some.bits = sym at
          ∙ sym c.take.ensures.value ∙ w.in-Some.is in
          record {
            moved = rw (c.take.ensures.after, w.values-is, w.push_reserved.ensures.items)
                (IsMoved-some changed_nets place start current moved w.in-Some.bits c.requires.sorted h is);
            count = rw w.values-is (omega (arith, w.push_reserved.ensures.len));
            capacity = rw w.values-is (w.push_reserved.ensures.capacity ∙ c.loop-net.invariant.capacity);
          }
      | in_default w ↦
          let none : get_or current (get_or changed_nets place 0) None ≡ None = sym at ∙ sym c.take.ensures.value
          ∙ w.in_default.is in
          record {
            moved = rw (c.take.ensures.after, w.values-is) (IsMoved-none changed_nets place start current moved h none);
            count = rw w.values-is (omega arith);
            capacity = rw w.values-is c.loop-net.invariant.capacity;
          }
    ]

pub returns-clause-values : goal.returns-clause-values
returns-clause-values c = (IsMoved-all c.args.changed_nets.now c.loop-net.net-index c.args.current.now.items
    c.loop-net.current.items c.loop-net.values.items c.loop-net.invariant.moved c.loop-net-test.false).0

pub returns-clause-left : goal.returns-clause-left
returns-clause-left c = (IsMoved-all c.args.changed_nets.now c.loop-net.net-index c.args.current.now.items
    c.loop-net.current.items c.loop-net.values.items c.loop-net.invariant.moved c.loop-net-test.false).1
