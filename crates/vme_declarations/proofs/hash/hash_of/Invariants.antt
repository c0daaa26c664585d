-- The hash so far is that of the bytes so far: with the rest it gives the hash of all.
use Rattle.std.proofs.Common.{◌≡◌, drop}
use Rattle.std.specs.List.{fold}
use Rattle.vme_declarations.specs.Hashes.{hash_of, hash_of_number}
use Rattle.vme_declarations.proofs.hash.hash_of.Given as goal

abbrev pub invariant-loop-byte : goal.invariant-loop-byte
invariant-loop-byte l = fold hash_of_number l.hash (drop l.byte-index l.bytes) ≡ hash_of l.before l.bytes
