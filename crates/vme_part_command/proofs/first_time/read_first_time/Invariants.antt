-- Nothing was taken of the dump.
use Rattle.std.proofs.Common.{◌≡◌, []}
use Rattle.vme_trace.specs.Streams.{Reading}
use Rattle.vme_dump_input.specs.BufferedInputs.{IsReadOn, IsReadTo, reads_left}
use Rattle.vme_part_command.proofs.first_time.read_first_time.Given as goal

abbrev pub invariant-reading : goal.invariant-reading
invariant-reading g l =
    record {
      read : (old : Reading) → IsReadTo old (g.D.Source.reading l.initial.dump) [] l.initial.input
          → IsReadTo old (g.D.Source.reading l.dump) [] l.input;
      on : IsReadOn l.initial.input l.input;
      limit : l.input.limit ≡ l.initial.input.limit;
    }

abbrev pub decreases-reading : goal.decreases-reading
decreases-reading g l = reads_left l.input
