-- The digits so far are those of the number so far.
use Rattle.std.proofs.Common.{◌≡◌, ◌^◌, ◌<◌, ◌≤◌, length, take}
use Rattle.vme_listing.specs.RowText.{hexadecimal}
use Rattle.vme_listing.proofs.line.hexadecimal_word.Given as goal

abbrev pub invariant-loop-byte : goal.invariant-loop-byte
invariant-loop-byte l = record {
  within : l.byte-index ≤ length l.word;
  text : hexadecimal l.byte-index l.number ≡ take l.byte-index l.word;
  below : l.number < 16 ^ l.byte-index;
}
