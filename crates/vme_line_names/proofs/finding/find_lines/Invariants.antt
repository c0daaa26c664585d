use Rattle.std.proofs.Common.{◌≡◌, ◌≤◌, length}
use Rattle.vme_line_names.proofs.finding.find_lines.Given as goal

abbrev pub invariant-loop-candidate : goal.invariant-loop-candidate
invariant-loop-candidate l = (l.found.is_asked ≡ l.initial.found.is_asked) × (length l.found.others.items ≤ 10)

abbrev pub invariant-loop-other : goal.invariant-loop-other
invariant-loop-other l = (l.found.is_asked ≡ l.initial.found.is_asked) × (length l.found.others.items ≤ 10)
