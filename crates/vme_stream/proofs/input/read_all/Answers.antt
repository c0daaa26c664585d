use Rattle.std.proofs.Common.{◌≡◌, ◌+◌, ◌≤◌, ◌<◌, ℕ, length, suc, take, drop, length-drop, subst, arith, rules, ◌∙◌}
use Rattle.std.proofs.lemmas.List.{places}
use Rattle.vme_stream.specs.Inputs.{least_room, longest_input, most_reads}
use Rattle.vme_stream.proofs.InputLemmas.{Consumes-grown, IsReading-more_than, lt-length_take, IsRoomy-read_some}
use Rattle.vme_stream.proofs.input.read_all.Goals as goal

pub returns-then-filled-gt-LONGEST-clause-too_long : goal.returns-then-filled-gt-LONGEST-clause-too_long
returns-then-filled-gt-LONGEST-clause-too_long g c =
    let old = g.R.Source.reading c.args.source.now in
    let new = g.R.Source.reading c.loop.source in
    let bytes = c.loop.bytes.items in
    let fits : c.loop.filled ≤ length bytes = search (rules, places) in
    let reads : new.reads < old.reads + most_reads = omega (arith, c.loop.invariant.reads, c.loop-test.true) in
    λ _. IsReading-more_than old new (take c.loop.filled bytes) longest_input c.loop.invariant.read
    (lt-length_take bytes longest_input c.loop.filled fits c.if-filled-gt-LONGEST.true)
    (record { failures = c.loop.invariant.failures; reads = reads })

pub loop-preserved : goal.loop-preserved
loop-preserved g c =
    let old = g.R.Source.reading c.args.source.now in
    let mid = g.R.Source.reading c.loop.source in
    let new = g.R.Source.reading c.read_chunk.new.source in
    let some : 0 < c.in-Ok.count = omega (arith, c.if-count-eq0.false) in
    let more : new.reads ≡ suc mid.reads = c.in-Ok.ensures.reads.1 some in
    let bytes = c.read_chunk.new.bytes in
    let wide : c.loop.filled + least_room ≤ length bytes.items = subst (λ (n : ℕ). c.loop.filled + least_room ≤ n)
    bytes.ok.0 c.in-Ok.ensures.room in
    let room = drop c.loop.filled bytes.items in
    let enough : least_room ≤ length room = omega (arith, length-drop c.loop.filled bytes.items, wide) in
    record {
      within = c.in-Ok.ensures.fits;
      counted = omega (arith, c.loop.invariant.counted, some);
      read = Consumes-grown _ _ _ _ c.read_chunk.new.bytes.items c.loop.filled c.in-Ok.count c.in-Ok.ensures.front
          c.loop.invariant.read c.in-Ok.ensures.bytes;
      reads = omega (arith, more, c.loop.invariant.reads);
      roomy = IsRoomy-read_some old mid new c.loop.counter c.loop.filled c.in-Ok.count
          (length room) c.loop.invariant.roomy
          c.if-filled-gt-LONGEST.false some enough c.in-Ok.ensures.short_reads;
      failures = c.in-Ok.ensures.ok ∙ c.loop.invariant.failures;
    }
