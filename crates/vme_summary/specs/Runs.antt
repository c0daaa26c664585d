-- What each monitor does at a step, and the outcome of steps for it, from a memory (state of its automaton) and the
-- levels before them.
use Rattle.std.specs.Prelude.{List}
use Rattle.vme_trace.specs.Levels.{Levels}
use Rattle.vme_trace.specs.declared.step.Change.{Change}
use Rattle.vme_trace.specs.declared.step.Step.{Step}
use Rattle.vme_monitor.specs.Outcome.{Outcome}
use Rattle.vme_monitor.specs.Run.{machine_step, run_of, no_end_fault, no_start_marks, no_step_marks}
use Rattle.vme_monitor.specs.OverStretches.{observed, phase_step}
use Rattle.vme_monitor.specs.KnownRules.{known_begin, known_end_fault, known_next, known_start_marks, known_reset_marks}
use Rattle.vme_monitor.specs.KnownRules.{known_observation}
use Rattle.vme_monitor.specs.declared.known.Stateless.{Stateless}
use Rattle.vme_monitor.specs.declared.mark.Next.{Next}
use Rattle.vme_monitor.specs.declared.over_stretches.StretchPhase.{StretchPhase}
use Rattle.vme_dtb.specs.Machine.{dtb_begin, dtb_observation, dtb_step}
use Rattle.vme_dtb.specs.declared.memory.HandshakeMemory.{HandshakeMemory}
use Rattle.vme_dtb.specs.StabilityRules.{stability_begin, stability_next, stability_observation}
use Rattle.vme_dtb.specs.declared.holding.Holding.{Holding}
use Rattle.vme_chains.specs.GrantRules.{grant_begin, grant_next, grant_start_marks, grant_observation}
use Rattle.vme_chains.specs.declared.grant_memory.Arbitration.{Arbitration}
use Rattle.vme_chains.specs.AcknowledgeRules.{acknowledge_begin, acknowledge_next, acknowledge_observation}
use Rattle.vme_chains.specs.declared.acknowledge.AcknowledgeMemory.{AcknowledgeMemory}

-- what the monitor of stretches does at a step: the memory that it enters, the rule that it finds broken, and what it
-- shows
abbrev pub known_at : StretchPhase Stateless → Levels → Levels → List Change → Next (StretchPhase Stateless)
known_at = machine_step (observed known_observation)
    (phase_step known_begin known_start_marks known_reset_marks known_end_fault known_next)

-- the same of the monitor of the handshake
abbrev pub handshake_at : StretchPhase HandshakeMemory → Levels → Levels → List Change
    → Next (StretchPhase HandshakeMemory)
handshake_at = machine_step (observed dtb_observation)
    (phase_step dtb_begin no_start_marks no_step_marks no_end_fault dtb_step)

-- the same of the monitor of held lines
abbrev pub stability_at : StretchPhase Holding → Levels → Levels → List Change → Next (StretchPhase Holding)
stability_at = machine_step (observed stability_observation)
    (phase_step stability_begin no_start_marks no_step_marks no_end_fault stability_next)

-- the same of the monitor of grants
abbrev pub grant_at : StretchPhase Arbitration → Levels → Levels → List Change → Next (StretchPhase Arbitration)
grant_at = machine_step (observed grant_observation)
    (phase_step grant_begin grant_start_marks no_step_marks no_end_fault grant_next)

-- the same of the monitor of interrupt acknowledges
abbrev pub acknowledge_at : StretchPhase AcknowledgeMemory → Levels → Levels → List Change
    → Next (StretchPhase AcknowledgeMemory)
acknowledge_at = machine_step (observed acknowledge_observation)
    (phase_step acknowledge_begin no_start_marks no_step_marks no_end_fault acknowledge_next)

-- the run of `Known`
unfoldable pub known_run : StretchPhase Stateless → Levels → List Step → Outcome (StretchPhase Stateless)
known_run = run_of known_at

-- the run of `Dtb`
unfoldable pub handshake_run : StretchPhase HandshakeMemory → Levels → List Step
    → Outcome (StretchPhase HandshakeMemory)
handshake_run = run_of handshake_at

-- the run of `Stability`
unfoldable pub stability_run : StretchPhase Holding → Levels → List Step → Outcome (StretchPhase Holding)
stability_run = run_of stability_at

-- the run of `Grant`
unfoldable pub grant_run : StretchPhase Arbitration → Levels → List Step → Outcome (StretchPhase Arbitration)
grant_run = run_of grant_at

-- the run of `Iack`
unfoldable pub acknowledge_run : StretchPhase AcknowledgeMemory → Levels → List Step
    → Outcome (StretchPhase AcknowledgeMemory)
acknowledge_run = run_of acknowledge_at
