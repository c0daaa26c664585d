-- The bytes that were taken and those that are held are all that were read.
use Rattle.std.proofs.Common.{ℕ, List}
use Rattle.vme_stream.proofs.IntakeLemmas.{IsUnderway}
use Rattle.vme_stream.proofs.byte_consumer.read_by.Given as goal

abbrev pub invariant-loop : goal.invariant-loop
invariant-loop g l = (done : List ℕ) × IsUnderway (g.R.Source.reading l.initial.source) (g.R.Source.reading l.source)
    (g.T.ByteConsumer.ahead l.initial.consumer) (g.T.ByteConsumer.ahead l.consumer) l.bytes.items done l.taken l.filled
    l.counter
