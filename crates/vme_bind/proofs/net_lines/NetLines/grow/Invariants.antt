-- The lines of each net stay the same.
use Rattle.std.proofs.Common.{◌≡◌, ℕ, ◌+◌, ◌-◌, vec_len}
use Rattle.vme_bind.specs.NetLines.{line_bits_of}
use Rattle.vme_bind.proofs.net_lines.NetLines.grow.Given as goal

abbrev pub invariant-loop-alloc : goal.invariant-loop-alloc
invariant-loop-alloc l = (k : ℕ) → line_bits_of l.self k ≡ line_bits_of l.fn.self k

abbrev pub decreases-loop-alloc : goal.decreases-loop-alloc
decreases-loop-alloc l = l.net + 1 - vec_len l.self.nets
