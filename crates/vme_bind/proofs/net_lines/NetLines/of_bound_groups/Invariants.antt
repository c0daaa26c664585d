-- The lines so far are line bits of their nets.
use Rattle.std.proofs.Common.{◌≡◌, ℕ}
use Rattle.vme_bind.specs.NetLines.{line_bits_of, line_bits_below}
use Rattle.vme_bind.proofs.net_lines.NetLines.of_bound_groups.Given as goal

abbrev pub invariant-loop-number : goal.invariant-loop-number
invariant-loop-number l = (net : ℕ) → line_bits_of l.line_bits net ≡ line_bits_below l.lines.slots l.bound_groups net
    l.number
