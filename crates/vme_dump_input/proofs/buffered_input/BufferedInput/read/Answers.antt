-- Some bytes are read, or the end; or reading is given up.
use Rattle.std.proofs.Common.{◌<◌, ◌+◌, ◌++◌, true, drop, refl, sym, ap, subst, ◌∙◌, arith}
use Rattle.std.specs.Prelude.{vec_len}
use Rattle.vme_dump_input.specs.BufferedInputs.{InputSoFar, IsReadTo}
use Rattle.vme_dump_input.proofs.BufferedLemmas.{FailsAs-fault, IsReading-given_up, IsReadTo-no_bytes}
use Rattle.vme_dump_input.proofs.BufferedLemmas.{IsReadTo-some_bytes, IsReading-too_long}
use Rattle.vme_dump_input.proofs.buffered_input.BufferedInput.read.Goals as goal

pub returns-then-self-eq-MOST_READS-clause-fails : goal.returns-then-self-eq-MOST_READS-clause-fails
returns-then-self-eq-MOST_READS-clause-fails g c old done h =
    IsReading-given_up old (g.R.Source.reading c.args.source.now) done c.args.self.now h
    (ap (λ (i : InputSoFar). i.reads) (sym c.self.view_is) ∙ c.if-self-eq-MOST_READS.true)

pub returns-then-self-clause-fails : goal.returns-then-self-clause-fails
returns-then-self-clause-fails g c old done h =
    let reads = ap (λ (i : InputSoFar). i.reads) c.self.view_is in
    let read = ap (λ (i : InputSoFar). i.read) c.self.view_is in
    let limit = ap (λ (i : InputSoFar). i.limit) c.self.view_is in
    IsReading-too_long old (g.R.Source.reading c.args.source.now) done c.args.self.now h
    (omega (arith, c.self.invariant.3, c.if-self-eq-MOST_READS.false, reads))
    (omega (arith, c.if-self.true, read, limit))

pub returns-in-Err-clause-fails : goal.returns-in-Err-clause-fails
returns-in-Err-clause-fails g c old done h =
    let reads = ap (λ (i : InputSoFar). i.reads) c.self.view_is in
    FailsAs-fault old (g.R.Source.reading c.args.source.now) done c.args.self.now h
    (g.R.Source.reading c.read_after.new.source) c.args.self.now.limit c.in-Err.fault
    (omega (arith, c.self.invariant.3, c.if-self-eq-MOST_READS.false, reads)) c.in-Err.ensures.reads
    c.in-Err.ensures.err

pub returns-then-count-eq0-clause-read : goal.returns-then-count-eq0-clause-read
returns-then-count-eq0-clause-read g c old done h =
    let self = c.self.inside in
    let now = g.R.Source.reading c.args.source.now in
    let later = g.R.Source.reading c.read_after.new.source in
    let before : InputSoFar = record {
      held = drop self.start self.held.items;
      limit = self.limit;
      room = vec_len self.room;
      read = self.read;
      reads = self.reads;
      is_whole = self.is_whole;
    } in
    let after : InputSoFar = record before {
      held = c.read_after.new.held.items;
      room = vec_len c.read_after.new.room;
      is_whole = true;
    } in
    let (more, long, held, consumed) = c.in-Ok.ensures.bytes in
    let none = c.if-count-eq0.true in
    IsReadTo-no_bytes old now later done before after (subst (IsReadTo old now done) (sym c.self.view_is) h) more
    c.in-Ok.count
    long (held ∙ ap (λ l. l ++ more) c.forget_first.ensures) refl c.read_after.ensures.room none refl refl refl
    consumed (c.in-Ok.ensures.end none) c.in-Ok.ensures.ok (c.in-Ok.ensures.reads.0 none)
    (c.in-Ok.ensures.short_reads.0 none)
    (omega (arith, c.self.invariant.3, c.if-self-eq-MOST_READS.false)) (omega (arith, c.if-self.false))

pub returns-clause-read : goal.returns-clause-read
returns-clause-read g c old done h =
    let self = c.self.inside in
    let now = g.R.Source.reading c.args.source.now in
    let later = g.R.Source.reading c.read_after.new.source in
    let before : InputSoFar = record {
      held = drop self.start self.held.items;
      limit = self.limit;
      room = vec_len self.room;
      read = self.read;
      reads = self.reads;
      is_whole = self.is_whole;
    } in
    let after : InputSoFar = record before {
      held = c.read_after.new.held.items;
      room = vec_len c.read_after.new.room;
      read = self.read + c.in-Ok.count;
      reads = self.reads + 1;
    } in
    let (more, long, held, consumed) = c.in-Ok.ensures.bytes in
    let some : 0 < c.in-Ok.count = omega (arith, c.if-count-eq0.false) in
    IsReadTo-some_bytes old now later done before after (subst (IsReadTo old now done) (sym c.self.view_is) h) more
    c.in-Ok.count
    long (held ∙ ap (λ l. l ++ more) c.forget_first.ensures) refl c.read_after.ensures.room some refl refl refl
    consumed c.in-Ok.ensures.ok (c.in-Ok.ensures.reads.1 some) (c.in-Ok.ensures.short_reads.1 some)
    c.in-Ok.ensures.short_reads.2
    (omega (arith, c.self.invariant.3, c.if-self-eq-MOST_READS.false))
    (ap (λ (i : InputSoFar). i.is_whole) c.self.view_is ∙ c.requires)
    (omega (arith, c.if-self.false, c.in-Ok.ensures.few))
