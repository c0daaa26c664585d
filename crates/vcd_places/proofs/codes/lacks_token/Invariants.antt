-- The loop over tokens: none so far is the word.
use Rattle.std.proofs.Common.{◌≡◌, ◌-◌, length, take, true, false}
use Rattle.std.specs.List.{list_any}
use Rattle.vcd_read.specs.Tokens.{tokens}
use Rattle.vcd_places.specs.Codes.{is_token}
use Rattle.vcd_places.specs.NextTokens.{is_token_boundary}
use Rattle.vcd_places.proofs.codes.lacks_token.Given as goal

abbrev pub invariant-loop-token : goal.invariant-loop-token
invariant-loop-token l = record {
  same : l.reader.text.now ≡ l.text;
  boundary : is_token_boundary l.text l.reader.at ≡ true;
  lacks : list_any (is_token l.word) (tokens (take l.reader.at l.text)) ≡ false;
}

abbrev pub decreases-loop-token : goal.decreases-loop-token
decreases-loop-token l = length l.text - l.reader.at
