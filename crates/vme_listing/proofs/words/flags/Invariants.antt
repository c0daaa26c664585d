-- The bits so far, with those of the bytes to come appended, are the bits of the whole word.
use Rattle.std.proofs.Common.{◌≡◌, drop}
use Rattle.vme_listing.specs.Words.{flags_after}
use Rattle.vme_listing.proofs.words.flags.Given as goal

abbrev pub invariant-loop-byte : goal.invariant-loop-byte
invariant-loop-byte l = flags_after l.flags (drop l.byte-index l.word) ≡ flags_after 0 l.word
