-- The number so far, with the digits to come appended, is the number of the whole word.
use Rattle.std.proofs.Common.{◌≡◌, drop}
use Rattle.vme_listing.specs.Words.{number_after}
use Rattle.vme_listing.proofs.words.number.Given as goal

abbrev pub invariant-loop-byte : goal.invariant-loop-byte
invariant-loop-byte l = number_after l.base l.number (drop l.byte-index l.word) ≡ number_after l.base 0 l.word
