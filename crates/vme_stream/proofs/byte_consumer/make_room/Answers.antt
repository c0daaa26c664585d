use Rattle.std.proofs.Common.{ℕ, ◌≤◌, List, arith, subst, take-take}
use Rattle.vcd_read.specs.ByteConsumers.{ContinuesAs}
use Rattle.vme_stream.proofs.IntakeLemmas.{take-left}
use Rattle.vme_stream.proofs.byte_consumer.make_room.Goals as goal

pub returns-clause-left : goal.returns-clause-left
returns-clause-left g c =
    let bytes = c.args.bytes.now in
    let some : c.in_ok-next.count ≤ c.args.filled = omega (arith, c.in_ok-next.ensures.within) in
    take-left bytes.items c.move_to_front.new.bytes.items c.lengthen.new.bytes.items bytes.len c.args.filled
    c.in_ok-next.count c.requires.within some c.move_to_front.ensures.left c.lengthen.ensures.front

pub returns-clause-taken : goal.returns-clause-taken
returns-clause-taken g c =
    let bytes = c.args.bytes.now in
    let first = g.T.ByteConsumer.ahead c.args.consumer in
    let next = g.T.ByteConsumer.ahead c.in_ok-next.next in
    let taken = rw c.as_slice.ensures.value at c.in_ok-next.ensures.taken in
    subst (λ (xs : List ℕ). ContinuesAs first next xs)
    (take-take _ _ bytes.items c.in_ok-next.ensures.within) taken
