-- The instants so far are recorded.
use Rattle.std.proofs.Common.{◌≡◌}
use Rattle.vme_bind.specs.Capture.{recording}
use Rattle.vme_bind.proofs.OpeningLemmas.{shown_after}
use Rattle.vme_bind.proofs.capture.record_all.Given as goal

abbrev pub invariant-loop-instant : goal.invariant-loop-instant
invariant-loop-instant l = record {
  shown : l.recorder ≡ shown_after l.lines.slots l.bound_groups l.instants l.instant-index;
  steps : l.steps.items ≡ (recording l.lines.slots l.bound_groups l.instants l.instant-index).steps;
}
