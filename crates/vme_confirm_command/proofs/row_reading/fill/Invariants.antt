-- The bytes that were held at first are a prefix of those that are held.
use Rattle.std.proofs.Common.{◌≡◌, ℕ, ◌+◌, ◌^◌, ◌<◌, List, length}
use Rattle.vme_trace.specs.Streams.{Reading}
use Rattle.vme_dump_input.specs.BufferedInputs.{IsReadTo, reads_left}
use Rattle.vme_confirm_command.specs.RowsOfListing.{HoldsMore}
use Rattle.vme_confirm_command.proofs.row_reading.fill.Given as goal

abbrev pub invariant-loop-input : goal.invariant-loop-input
invariant-loop-input g l =
    record {
      read : (old : Reading) (done : List ℕ) → IsReadTo old (g.L.Source.reading l.initial.source) done l.initial.input
          → IsReadTo old (g.L.Source.reading l.source) done l.input;
      filled : HoldsMore l.initial.input l.input;
      counted : l.input.read + length l.initial.input.held ≡ l.initial.input.read + length l.input.held;
      room : l.input.room ≡ l.initial.input.room;
      small : l.initial.input.read < 2 ^ 62 → l.input.read < 2 ^ 62;
    }

abbrev pub decreases-loop-input : goal.decreases-loop-input
decreases-loop-input g l = reads_left l.input
