-- The lines of the line bits so far are assigned a level.
use Rattle.std.proofs.Common.{◌≡◌, take}
use Rattle.vme_bind.specs.AssignedLines.{with_assigned}
use Rattle.vme_bind.proofs.assigned_lines.AssignedLines.assign_each.Given as goal

abbrev pub invariant-loop-line_bit : goal.invariant-loop-line_bit
invariant-loop-line_bit l = l.self-inside.lines ≡ with_assigned (take l.line_bit-index l.line_bits) l.fn.self
