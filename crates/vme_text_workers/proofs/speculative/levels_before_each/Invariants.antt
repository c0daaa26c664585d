-- The levels so far are of all lines.
use Rattle.std.proofs.Common.{◌≡◌, length}
use Rattle.vme_trace.specs.LineNumbers.{line_count}
use Rattle.vme_text_workers.specs.SpeculativeChunks.{AreWhole}
use Rattle.vme_text_workers.proofs.speculative.levels_before_each.Given as goal

abbrev pub invariant-loop-one : goal.invariant-loop-one
invariant-loop-one g l = record {
  before : length l.before.levels ≡ line_count;
  whole : AreWhole l.levels.items;
}
