-- The loop over sections: the reader is at a token boundary, and the text before it ends between two sections.
use Rattle.std.proofs.Common.{◌≡◌, ◌-◌, length, take, true}
use Rattle.vcd_places.specs.Places.{is_between_sections}
use Rattle.vcd_places.specs.NextTokens.{is_token_boundary}
use Rattle.vcd_places.proofs.section.definitions_end.Given as goal

abbrev pub invariant-loop-first : goal.invariant-loop-first
invariant-loop-first l = record {
  same : l.reader.text.now ≡ l.text;
  between_sections : is_between_sections (take l.reader.at l.text) ≡ true;
  boundary : is_token_boundary l.text l.reader.at ≡ true;
}

abbrev pub decreases-loop-first : goal.decreases-loop-first
decreases-loop-first l = length l.text - l.reader.at
