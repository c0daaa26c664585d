use Rattle.std.proofs.Common.{◌≡◌, ◌<◌, ◌≤◌, ◌+◌, ◌-◌, ℕ, ◌++◌, length, take, drop, sym, ap, subst, ◌∙◌, arith}
use Rattle.std.specs.Io.KnownBytes.{Consumes}
use Rattle.vme_stream.specs.Inputs.{least_room, longest_input}
use Rattle.vme_stream.proofs.IntakeLemmas.{all_read, IsUnderway-taken, length-all_read, IsReading-too_long}
use Rattle.vme_stream.proofs.IntakeLemmas.{IsUnderway-read, IsReading-at_end}
use Rattle.vme_stream.proofs.byte_consumer.read_by.Goals as goal

pub overflow_add-taken : goal.overflow_add-taken
overflow_add-taken g c =
    let bytes = c.loop.bytes in
    let (done, u) = c.loop.invariant in
    omega (arith, u.few, u.within, bytes.ok.0, bytes.ok.1, bytes.small)

pub returns-then-taken-filled-gt-LONGEST-clause-too_long : goal.returns-then-taken-filled-gt-LONGEST-clause-too_long
returns-then-taken-filled-gt-LONGEST-clause-too_long g c =
    let old = g.R.Source.reading c.args.source.now in
    let mid = g.R.Source.reading c.loop.source in
    let (done, u) = c.loop.invariant in
    λ _.
    IsReading-too_long old mid (g.T.ByteConsumer.ahead c.args.consumer) (g.T.ByteConsumer.ahead c.loop.consumer)
    c.loop.bytes.items done c.loop.taken c.loop.filled c.loop.counter u
    c.if-taken-filled-gt-LONGEST.true (omega (arith, c.loop-test.true))

pub returns-then-count-eq0-clause-bytes : goal.returns-then-count-eq0-clause-bytes
returns-then-count-eq0-clause-bytes g c =
    let old = g.R.Source.reading c.args.source.now in
    let mid = g.R.Source.reading c.loop.source in
    let new = g.R.Source.reading c.read_after.new.source in
    let first = g.T.ByteConsumer.ahead c.args.consumer in
    let here = g.T.ByteConsumer.ahead c.loop.consumer in
    let next = g.T.ByteConsumer.ahead c.in_ok-next.next in
    let buffer = c.loop.bytes.items in
    let room = c.make_room.new.bytes.items in
    let after = c.read_after.new.bytes.items in
    let count = c.in_ok-next.count in
    let held : ℕ = c.loop.filled - count in
    let (done, u) = c.loop.invariant in
    let m = c.in_ok-next.ensures in
    let limit : c.loop.taken + c.loop.filled ≤ longest_input = omega (arith, c.if-taken-filled-gt-LONGEST.false) in
    let roomy : held + least_room ≤ length room = subst (λ (n : ℕ). held + least_room ≤ n) c.make_room.new.bytes.ok.0
    m.room in
    let given = IsUnderway-taken old mid first here buffer done c.loop.taken c.loop.filled c.loop.counter u limit next
    room
    count m.within roomy m.left m.taken in
    let whole = all_read old mid first next room (done ++ take count buffer) (c.loop.taken + count) held c.loop.counter
    given in
    let long = length-all_read old mid first next room (done ++ take count buffer) (c.loop.taken + count) held
    c.loop.counter given in
    let none = c.if-count-eq0.true in
    let read = subst (λ (n : ℕ). Consumes mid.left new.left (take n (drop held after))) none c.in-Ok.ensures.bytes in
    let reading = IsReading-at_end old mid first next room (done ++ take count buffer) (c.loop.taken + count) held
    c.loop.counter given new after c.in-Ok.ensures.front read (c.in-Ok.ensures.end none)
    (c.in-Ok.ensures.reads.0 none) c.in-Ok.ensures.ok (omega (arith, c.loop-test.true)) in (
      whole,
      omega (arith, long, limit, m.within),
      reading,
      given.passes (take held room)
          ∙ ap next (sym (c.truncate.ensures.items ∙ c.in-Ok.ensures.front)),
    )

pub loop-preserved : goal.loop-preserved
loop-preserved g c =
    let old = g.R.Source.reading c.args.source.now in
    let mid = g.R.Source.reading c.loop.source in
    let new = g.R.Source.reading c.read_after.new.source in
    let first = g.T.ByteConsumer.ahead c.args.consumer in
    let here = g.T.ByteConsumer.ahead c.loop.consumer in
    let next = g.T.ByteConsumer.ahead c.in_ok-next.next in
    let buffer = c.loop.bytes.items in
    let room = c.make_room.new.bytes.items in
    let after = c.read_after.new.bytes.items in
    let count = c.in_ok-next.count in
    let held : ℕ = c.loop.filled - count in
    let (done, u) = c.loop.invariant in
    let m = c.in_ok-next.ensures in
    let limit : c.loop.taken + c.loop.filled ≤ longest_input = omega (arith, c.if-taken-filled-gt-LONGEST.false) in
    let roomy : held + least_room ≤ length room = subst (λ (n : ℕ). held + least_room ≤ n) c.make_room.new.bytes.ok.0
    m.room in
    let given = IsUnderway-taken old mid first here buffer done c.loop.taken c.loop.filled c.loop.counter u limit next
    room
    count m.within roomy m.left m.taken in
    let some : 0 < c.in-Ok.count = omega (arith, c.if-count-eq0.false) in
    let fits : held + c.in-Ok.count ≤ length after = subst (λ (n : ℕ). held + c.in-Ok.count ≤ n)
    c.read_after.new.bytes.ok.0 c.in-Ok.ensures.fits in
    let wide : held + least_room ≤ length after = subst (λ (n : ℕ). held + least_room ≤ n)
    c.read_after.new.bytes.ok.0 c.in-Ok.ensures.room in
    let more : new.reads ≡ mid.reads + 1 = omega (arith, c.in-Ok.ensures.reads.1 some) in (
      done ++ take count buffer,
      IsUnderway-read old mid first next room (done ++ take count buffer) (c.loop.taken + count) held c.loop.counter
          given new
          after c.in-Ok.count c.in-Ok.ensures.front fits some (omega (arith, limit, m.within)) wide
          c.in-Ok.ensures.bytes more c.in-Ok.ensures.short_reads c.in-Ok.ensures.ok,
    )
