use Rattle.std.specs.Prelude.{◌≡◌, flat_map, take}
use Rattle.vme_picture.specs.Markup.{escaped_byte}
use Rattle.vme_picture.proofs.escaped.escaped.Given as goal

abbrev pub invariant-loop-byte : goal.invariant-loop-byte
invariant-loop-byte l = l.text ≡ flat_map escaped_byte (take l.byte-index l.bytes)
