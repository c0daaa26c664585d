-- The loop over words: none so far is empty or ends the section, which has these words and then those that it has from
-- here.
use Rattle.std.proofs.Common.{◌≡◌, ◌≤◌, ◌<◌, ◌-◌, length}
use Rattle.std.specs.List.{All}
use Rattle.vcd_read.specs.Reading.{line_at, left_at}
use Rattle.vcd_read.specs.Scopes.{texts}
use Rattle.vcd_read.specs.Sections.{section_from}
use Rattle.vcd_read.proofs.SectionLemmas.{with_words_before}
use Rattle.vcd_read.proofs.header.words_of.Given as goal

abbrev pub invariant-loop-token : goal.invariant-loop-token
invariant-loop-token l =
    let text = l.fn.reader.text in
    let line = line_at text l.first in
    record {
      same : l.reader.text ≡ l.fn.reader.text;
      moves : l.fn.reader.at ≤ l.reader.at;
      so_far : section_from line (left_at text l.fn.reader.at) ≡ with_words_before (texts l.words.items)
          (section_from line (left_at text l.reader.at));
      each : All (λ word. 0 < length word.now) l.words.items;
    }

abbrev pub decreases-loop-token : goal.decreases-loop-token
decreases-loop-token l = length l.reader.text.bytes.now - l.reader.at
