-- What the memory m of the handshake (the state of the automaton) says of a judged instant n, by the definitions of
-- transfers, cycles and edges.
use Rattle.std.proofs.Common.{◌≡◌, ℕ}
use Rattle.vme_trace.specs.LineNumbers.{DTACK, BERR}
use Rattle.vme_trace.specs.Trace.{Trace}
use Rattle.vme_trace.specs.Judged.{Stretch}
use Rattle.vme_monitor.specs.Tracked.{IsTransferPhase}
use Rattle.vme_dtb.specs.declared.memory.HandshakeMemory.{HandshakeMemory}
use Rattle.vme_dtb.proofs.CycleMemory.{cycle_after}
use Rattle.vme_dtb.proofs.AnswerRises.{may_rise_at}

-- the memory m is right of instant n
pub record Holds (t : Trace) (stretch : Stretch) (n : ℕ) (m : HandshakeMemory) : Type 0 where
  pub transfer : IsTransferPhase t stretch n m.transfer
  pub cycle : m.cycle ≡ cycle_after t stretch n
  pub dtack : m.dtack_may_rise ≡ may_rise_at t stretch DTACK n
  pub berr : m.berr_may_rise ≡ may_rise_at t stretch BERR n
