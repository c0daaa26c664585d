-- The bytes so far were written, if the formatter is a plain one.
use Rattle.std.proofs.Common.{take}
use Rattle.std.specs.List.{flat_map}
use Rattle.std.specs.Prelude.{encode_utf8}
use Rattle.std.specs.Fmt.{HasWritten, IsPlainFormatter}
use Rattle.vme_bind.proofs.fault.LineNameDisplay.fmt.Given as goal

abbrev pub invariant-loop-byte : goal.invariant-loop-byte
invariant-loop-byte g l =
    IsPlainFormatter l.initial.f → HasWritten g.W.Write.write_str_gives l.initial.f
    (flat_map encode_utf8 (take l.byte-index l.byte-items)) l.f
