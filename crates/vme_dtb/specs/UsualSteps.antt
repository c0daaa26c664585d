-- The usual kinds of steps of the handshake, and what they leave.
use Rattle.std.specs.Prelude.{Bool, false, not, ◌&&◌, ◌||◌, if◌then◌else◌}
use Rattle.vme_trace.specs.Edges.{falls_between, starts_between, strobes_high_in}
use Rattle.vme_trace.specs.LineNumbers.{AS, DS0, DS1, DTACK, BERR}
use Rattle.vme_trace.specs.Levels.{Levels, level_at, is_low, is_high}
use Rattle.vme_monitor.specs.declared.tracking.TransferPhase.{TransferPhase}
use Rattle.vme_monitor.specs.declared.tracking.TransferPhase.TheVariants.{Closed, Reading, Writing, Answered}
use Rattle.vme_dtb.specs.Edge.{stays_on}
use Rattle.vme_dtb.specs.declared.cycle.CyclePhase.{CyclePhase}
use Rattle.vme_dtb.specs.declared.memory.HandshakeMemory.{HandshakeMemory}

module _ (v w : Levels) where
  -- the address strobe, the strobes and BERR* stay as they are
  abbrev pub is_answer_alone : Bool
  is_answer_alone = stays_on v w AS && stays_on v w DS0 && stays_on v w DS1 && stays_on v w BERR

  -- AS* falls, and the strobes and the answer lines stay as they are
  abbrev pub is_start_alone : Bool
  is_start_alone = falls_between v w AS && stays_on v w DS0 && stays_on v w DS1 && stays_on v w DTACK
      && stays_on v w BERR

  -- the answer lines stay as they are, AS* was low, and where a transfer starts both answer lines are high
  abbrev pub is_strobes_alone : Bool
  is_strobes_alone = is_low (level_at v AS) && stays_on v w DTACK && stays_on v w BERR
      && (not (starts_between v w) || (is_high (level_at v DTACK) && is_high (level_at v BERR)))

-- the memory after a step to the levels w, in the cycle c, with the transfer p unless it closes; `rises` says whether a
-- strobe rises. For steps in which no answer line falls, or after which p has its answer.
abbrev pub memory_left : HandshakeMemory → Levels → TransferPhase → CyclePhase → Bool → HandshakeMemory
memory_left m w p c rises =
    record {
      transfer = (if strobes_high_in w then Closed else p);
      cycle = c;
      dtack_may_rise = (is_low (level_at w DTACK) && (m.dtack_may_rise || rises));
      berr_may_rise = (is_low (level_at w BERR) && (m.berr_may_rise || rises));
    }

-- a strobe rises or the cycle ends before the answer has come, or a strobe falls after it
abbrev pub strobes_break_rule : TransferPhase → Bool → Bool → Bool → Bool
strobes_break_rule Closed rises ends falls = false
strobes_break_rule Reading rises ends falls = rises || ends
strobes_break_rule Writing rises ends falls = rises || ends
strobes_break_rule Answered rises ends falls = falls
