-- The loop over words: none so far ends the section, so what follows it from here is what follows it from the start.
use Rattle.std.proofs.Common.{◌≡◌, ◌≤◌, ◌-◌, length}
use Rattle.vcd_read.specs.Reading.{line_at, left_at}
use Rattle.vcd_read.specs.Sections.{after_section}
use Rattle.vcd_read.proofs.header.skip_section.Given as goal

abbrev pub invariant-loop-token : goal.invariant-loop-token
invariant-loop-token l =
    let text = l.fn.reader.text in
    let line = line_at text l.first in
    record {
      same : l.reader.text ≡ l.fn.reader.text;
      moves : l.fn.reader.at ≤ l.reader.at;
      so_far : after_section line (left_at text l.fn.reader.at) ≡ after_section line (left_at text l.reader.at);
    }

abbrev pub decreases-loop-token : goal.decreases-loop-token
decreases-loop-token l = length l.reader.text.bytes.now - l.reader.at
