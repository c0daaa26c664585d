use Rattle.std.proofs.Common.{ℕ, ◌<◌, None, refl, arith}
use Rattle.vme_core.specs.declared.view.View.{View}
use Rattle.vme_board.specs.Benches.{total_of, view_of}
use Rattle.vme_core.specs.Counting.{occurrences}
use Rattle.vme_floor.specs.Collecting.{IsCollected}
use Rattle.vme_floor.proofs.Collecting.{IsCollected-same, IsCollected-next, block_count-fits, filed-of_seen}
use Rattle.vme_floor.proofs.Collecting.{RefusesBlock-never}
use Rattle.vme_floor.proofs.Collecting.{slice_get-stored}
use Rattle.vme_floor.proofs.collector.Collection.collect.Goals as goal

pub unreachable-requires : goal.unreachable-requires
unreachable-requires c =
    let total : ℕ = total_of c.args.board.now in let mid : View = view_of c.look.new.self in
    let k : IsCollected total mid c.args.self.now =
    IsCollected-same total (view_of c.args.bench.now) mid c.args.self.now
    c.requires.collected c.in-Filed.ensures.rest.takes c.in-Filed.ensures.grows.filed in
    RefusesBlock-never total mid c.args.self.now c.in-Some.judged.number c.args.number c.in-Err.fault k
    c.in-Some.ensures.block c.requires.number c.in-Some.ensures.new c.in-Err.ensures.why c.in_default-fault.not-Memory

pub overflow_add-self : goal.overflow_add-self
overflow_add-self c =
    let k = c.requires.collected in let insert = c.in_default-insert.ensures in
    let few = block_count-fits (total_of c.args.board.now) (view_of c.args.bench.now) c.args.self.now
    c.in-Some.judged.number
    k insert.known insert.free in let most = c.args.board.now.limits.1 in omega (arith, few, most)

pub returns-clause-collected : goal.returns-clause-collected
returns-clause-collected c =
    let total : ℕ = total_of c.args.board.now in let mid : View = view_of c.look.new.self in
    let last : View = view_of c.take.new.self in let n : ℕ = c.args.number in
    let k : IsCollected total mid c.args.self.now =
    IsCollected-same total (view_of c.args.bench.now) mid c.args.self.now
    c.requires.collected c.in-Filed.ensures.rest.takes c.in-Filed.ensures.grows.filed in
    let take = c.in-Some.ensures in let insert = c.in_default-insert.ensures in
    let some : 0 < occurrences n mid.filed = filed-of_seen mid n c.in-Filed.ensures.seen in
    let more = take.grows.filed n in
    IsCollected-next total mid last c.args.self.now _ c.in-Some.judged.number n c.in-Some.judged k refl insert.inserted
    refl take.block c.requires.number take.taken take.new
    (slice_get-stored c.args.self.now.book c.in-Some.judged.number None
    insert.known insert.free) take.grows.filed (omega (arith, some, more))
