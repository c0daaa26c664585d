-- Nothing was taken of the dump.
use Rattle.std.proofs.Common.{◌≡◌, []}
use Rattle.vme_trace.specs.Streams.{Reading}
use Rattle.vme_dump_input.specs.BufferedInputs.{IsReadTo, reads_left}
use Rattle.vme_dump_input.proofs.definitions.unusable.Given as goal

abbrev pub invariant-loop-input : goal.invariant-loop-input
invariant-loop-input g l =
    record {
      read : (old : Reading) → IsReadTo old (g.D.Source.reading l.initial.dump) [] l.initial.input
          → IsReadTo old (g.D.Source.reading l.dump) [] l.input;
      limit : l.input.limit ≡ l.initial.input.limit;
    }

abbrev pub decreases-loop-input : goal.decreases-loop-input
decreases-loop-input g l = reads_left l.input
