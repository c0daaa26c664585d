-- The monitors of all rules, run from step to step.
use Rattle.std.specs.Prelude.{◌≡◌, ℕ, Bool, ◌&&◌, ◌||◌, ◌==◌, List, Option, None, Some, nat_lt, option_map}
use Rattle.std.specs.Prelude.{if◌then◌else◌}
use Rattle.vme_trace.specs.Levels.{Levels}
use Rattle.vme_trace.specs.declared.step.Change.{Change}
use Rattle.vme_trace.specs.Names.{rule_number}
use Rattle.vme_trace.specs.declared.verdict.Break.{Break}
use Rattle.vme_monitor.specs.OverStretches.{opening_phase}
use Rattle.vme_monitor.specs.Run.{break_of_fault}
use Rattle.vme_monitor.specs.KnownRules.{known_begin}
use Rattle.vme_monitor.specs.declared.mark.Fault.{Fault}
use Rattle.vme_dtb.specs.Machine.{dtb_begin}
use Rattle.vme_dtb.specs.StabilityRules.{stability_begin}
use Rattle.vme_chains.specs.GrantRules.{grant_begin}
use Rattle.vme_chains.specs.AcknowledgeRules.{acknowledge_begin}
use Rattle.vme_summary.specs.Runs.{acknowledge_at, grant_at, handshake_at, known_at, stability_at}
use Rattle.vme_auditor.specs.declared.memories.AllShown.{AllShown}
use Rattle.vme_auditor.specs.declared.memories.Memories.{Memories}

-- the memories in which the monitors start
abbrev pub memories_at : Levels → Memories
memories_at o =
    record {
      known = opening_phase known_begin o;
      handshake = opening_phase dtb_begin o;
      stability = opening_phase stability_begin o;
      grant = opening_phase grant_begin o;
      acknowledge = opening_phase acknowledge_begin o;
    }

-- the memories of the monitors after a step
abbrev pub memories_next : Memories → Levels → Levels → List Change → Memories
memories_next m before after changes =
    record {
      known = (known_at m.known before after changes).memory;
      handshake = (handshake_at m.handshake before after changes).memory;
      stability = (stability_at m.stability before after changes).memory;
      grant = (grant_at m.grant before after changes).memory;
      acknowledge = (acknowledge_at m.acknowledge before after changes).memory;
    }

-- fault `f` is named before fault `g` of the same step: by its rule, then by its line
abbrev pub comes_before : Fault → Fault → Bool
comes_before f g = nat_lt (rule_number f.rule) (rule_number g.rule)
    || ((rule_number f.rule == rule_number g.rule) && nat_lt f.line g.line)

-- of two faults of a step the one that is named first, if there is one
abbrev pub first_fault : Option Fault → Option Fault → Option Fault
first_fault None b = b
first_fault (Some a) None = Some a
first_fault (Some a) (Some b) = if comes_before b a then Some b else Some a

-- the first rule that a step breaks
abbrev pub first_fault_of : Memories → Levels → Levels → List Change → Option Fault
first_fault_of m before after changes =
    first_fault (known_at m.known before after changes).fault
    (first_fault (handshake_at m.handshake before after changes).fault
    (first_fault (stability_at m.stability before after changes).fault
    (first_fault (grant_at m.grant before after changes).fault
    (acknowledge_at m.acknowledge before after changes).fault)))

-- the first rule that a step breaks, as a break at instant `n` and time `time`
abbrev pub fault_at : Memories → Levels → Levels → List Change → ℕ → ℕ → Option Break
fault_at m before after changes n time = option_map (break_of_fault n time) (first_fault_of m before after changes)

-- all monitors advance past a step, from memories `old` to `new`, and `shown` is what they show
pub record AllGoOn (old : Memories) (before after : Levels) (changes : List Change) (new : Memories) (shown : AllShown)
    : Type 0 where
  pub memories : new ≡ memories_next old before after changes
  pub fault : shown.fault ≡ first_fault_of old before after changes
  pub stretch : shown.stretch ≡ (known_at old.known before after changes).shown
  pub tenure : shown.tenure ≡ (grant_at old.grant before after changes).shown
  pub transfer : shown.transfer ≡ (handshake_at old.handshake before after changes).shown
