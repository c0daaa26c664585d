-- The loop over bytes: the text has those so far, escaped except for line feeds.
use Rattle.std.specs.Prelude.{◌≡◌, flat_map, take}
use Rattle.vme_text.specs.Escaping.{hex_escaped_in_text}
use Rattle.vme_text.proofs.escaping.escaped_lines.Given as goal

abbrev pub invariant-loop-byte : goal.invariant-loop-byte
invariant-loop-byte l = l.all.items ≡ flat_map hex_escaped_in_text (take l.byte-index l.bytes)
