-- The loop over bytes: the text has those so far, escaped.
use Rattle.std.specs.Prelude.{◌≡◌, flat_map, take}
use Rattle.vme_text.specs.Escaping.{hex_escaped_byte}
use Rattle.vme_text.proofs.escaping.escaped.Given as goal

abbrev pub invariant-loop-byte : goal.invariant-loop-byte
invariant-loop-byte l = l.all.items ≡ flat_map hex_escaped_byte (take l.byte-index l.bytes)
