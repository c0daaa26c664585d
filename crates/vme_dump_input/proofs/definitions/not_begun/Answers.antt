-- A fault of the dump, or of the binding.
use Rattle.std.proofs.Common.{[], ℕ, List, ◌++◌, subst}
use Rattle.vme_bind.specs.TextCapture.{CaptureFailsBy}
use Rattle.vme_bind.specs.TextReading.{reading_of_text}
use Rattle.vme_bind.specs.declared.fault.CaptureFault.{CaptureFault}
use Rattle.vme_listing.specs.Reading.{IsFollowedBy}
use Rattle.vme_dump_input.proofs.DefinitionLemmas.{HasFaultBefore-dump}
use Rattle.vme_dump_input.proofs.definitions.not_begun.Goals as goal

pub returns-in-Dump-clause-read : goal.returns-in-Dump-clause-read
returns-in-Dump-clause-read g c old h limit fails =
    c.refused_for.ensures.refused old [] h limit
    (HasFaultBefore-dump c.args.binding.now c.args.input.now c.in-Dump.fault
    (subst (λ (f : CaptureFault). (rest : List ℕ) → IsFollowedBy c.args.input.now.is_whole rest
    → CaptureFailsBy f (reading_of_text c.args.binding.now (c.args.input.now.held ++ rest))) c.in-Dump.is fails))

pub returns-in-Binding-clause-read : goal.returns-in-Binding-clause-read
returns-in-Binding-clause-read g c old h limit fails = c.unusable.ensures.read old h limit
