use Rattle.std.proofs.Common.{◌≡◌}
use Rattle.vme_line_names.proofs.finding.take.Given as goal

abbrev pub invariant-loop-place-2 : goal.invariant-loop-place-2
invariant-loop-place-2 l = (l.found.is_asked ≡ l.fn.found.is_asked) × (l.found.others ≡ l.fn.found.others)
