-- The codes of the lines so far are added.
use Rattle.std.proofs.Common.{◌≡◌, ◌++◌, map}
use Rattle.std.specs.List.{range_with_len}
use Rattle.vme_part_command.specs.Backplane.{line_code}
use Rattle.vme_part_command.proofs.backplane.put_codes.Given as goal

abbrev pub invariant-loop-number : goal.invariant-loop-number
invariant-loop-number l =
    l.bytes.items ≡ l.fn.bytes.items ++ map (line_code l.opening) (range_with_len 0 l.number)
