-- The loop over blocks: those so far are cut, and the levels are those before the next one.
use Rattle.std.proofs.Common.{◌≡◌, ◌*◌, map}
use Rattle.std.specs.List.{range_with_len}
use Rattle.vme_trace.specs.Blocks.{block_at}
use Rattle.vme_trace.specs.Trace.{levels_at}
use Rattle.vme_trace.proofs.capture.Capture.blocks.Given as goal

abbrev pub invariant-loop-number : goal.invariant-loop-number
invariant-loop-number l = record {
  cut : l.blocks.items ≡ map (block_at l.size l.self) (range_with_len 0 l.number);
  reached : l.lines ≡ levels_at l.self (l.number * l.size);
}
