-- What the machine of the handshake does with a step.
use Rattle.std.specs.Prelude.{ℕ, Bool, true, false, not, ◌&&◌, ◌||◌, List, [], ◌∷◌, ◌++◌, Option, None, Some}
use Rattle.std.specs.Prelude.{is_some, option_map, if◌then◌else◌}
use Rattle.std.specs.Option.{option_or}
use Rattle.vme_trace.specs.Edges.{starts_between}
use Rattle.vme_trace.specs.LineNumbers.{AS, DTACK, BERR}
use Rattle.vme_trace.specs.Levels.{Levels, level_at, is_low}
use Rattle.vme_trace.specs.Lanes.{lanes_at}
use Rattle.vme_trace.specs.declared.data.Lanes.{Lanes}
use Rattle.vme_trace.specs.declared.rule.Rule.{Rule}
use Rattle.vme_trace.specs.declared.rule.Rule.TheVariants.{H1, H2, H3, H4, H5, H6, H7, H8, C1, C2, I4, I5}
use Rattle.vme_trace.specs.declared.step.Change.{Change}
use Rattle.vme_monitor.specs.Tracking.{entered, is_unanswered, is_within, is_writing, tracked}
use Rattle.vme_monitor.specs.declared.mark.TransferAnswer.{TransferAnswer as Answer}
use Rattle.vme_monitor.specs.declared.mark.Fault.{Fault}
use Rattle.vme_monitor.specs.declared.mark.Next.{Next}
use Rattle.vme_monitor.specs.declared.tracking.TransferPhase.{TransferPhase}
use Rattle.vme_monitor.specs.declared.tracking.TransferPhase.TheVariants.{Closed, Answered}
use Rattle.vme_dtb.specs.CycleState.{after_answer, cycle_entered, is_interrupt_acknowledge}
use Rattle.vme_dtb.specs.CycleState.{is_answered_interrupt_acknowledge, is_read_modify_write_broken}
use Rattle.vme_dtb.specs.CycleState.{is_direction_changed}
use Rattle.vme_dtb.specs.Edge.{edges_between, first_of, is_still}
use Rattle.vme_dtb.specs.declared.cycle.CyclePhase.{CyclePhase}
use Rattle.vme_dtb.specs.declared.cycle.CyclePhase.TheVariants.{Free}
use Rattle.vme_dtb.specs.declared.edges.Edges.{Edges}
use Rattle.vme_dtb.specs.declared.memory.HandshakeMemory.{HandshakeMemory}

-- a transfer is open, and answered
abbrev pub has_answer : TransferPhase → Bool
has_answer Answered = true
has_answer e = false

-- the fault that rule `r` is broken on `line`, if it applies and there is a line
abbrev pub fault_if : Rule → Bool → Option ℕ → Option Fault
fault_if r applies line = if applies then option_map (λ l. record { rule = r; line = l }) line else None

-- the line that answers the transfer in which the step ends, if any
abbrev pub answer_in : TransferPhase → Edges → Option ℕ
answer_in e s = if is_unanswered e then s.answer_fall else None

-- the data that an answer takes, if the transfer is a write: the data on the lines before the step, or after it if the
-- transfer starts there
abbrev pub data_in : TransferPhase → Levels → Levels → Option Lanes
data_in e v w = if is_writing e then Some (lanes_at (if starts_between v w then w else v)) else None

-- the answer of the transfer in which the step ends, if any
abbrev pub answered_in : TransferPhase → Levels → Levels → Edges → Option Answer
answered_in e v w s = option_map (λ l. record { line = l; lanes = data_in e v w }) (answer_in e s)

-- a strobe has risen since the answer line fell; `was` says whether one had before the step
abbrev pub may_rise : Bool → Edges → Bool
may_rise was s = was || is_some s.strobe_rise

-- the transfer that was open before the step stays without an answer
abbrev pub is_left_unanswered : TransferPhase → Edges → Bool
is_left_unanswered p s = is_unanswered p && not (is_some s.answer_fall)

-- an answer line falls in a transfer that has its answer, or both fall in one
abbrev pub is_doubled : TransferPhase → Edges → Bool
is_doubled e s = has_answer e || (is_unanswered e && s.both_fall)

-- the first answer line that rises while no strobe has risen since it fell
abbrev pub early_rise : HandshakeMemory → Edges → Option ℕ
early_rise m s = first_of (s.dtack_rises && not (may_rise m.dtack_may_rise s)) DTACK
    (s.berr_rises && not (may_rise m.berr_may_rise s)) BERR

-- `earlier` if there is one, or else the first of some faults
abbrev pub or_first : Option Fault → List (Option Fault) → Option Fault
or_first earlier [] = earlier
or_first earlier (f ∷ fs) = or_first (option_or earlier f) fs

-- the first of some faults
abbrev pub first_of_faults : List (Option Fault) → Option Fault
first_of_faults = or_first None

-- the rules on strobes and answers
abbrev pub strobe_rules : List Rule
strobe_rules = H1 ∷ H2 ∷ H3 ∷ H4 ∷ H5 ∷ H6 ∷ H7 ∷ H8 ∷ []

-- for each of these rules the fault where it is broken, `e` being the phase in which the step ends
abbrev pub strobe_faults : HandshakeMemory → TransferPhase → Edges → List (Option Fault)
strobe_faults m e s =
    fault_if H1 true s.answer_not_high
    ∷ fault_if H2 (is_left_unanswered m.transfer s) s.strobe_rise
    ∷ fault_if H3 (has_answer m.transfer) s.strobe_fall
    ∷ fault_if H4 (not (is_within e)) s.answer_fall
    ∷ fault_if H5 (is_doubled e s) s.answer_fall
    ∷ fault_if H6 true (early_rise m s)
    ∷ fault_if H7 (is_left_unanswered m.transfer s && s.shown.cycle_end) (Some AS)
    ∷ fault_if H8 s.unaddressed (answer_in e s)
    ∷ []

-- the rules on the answers of a cycle
abbrev pub cycle_rules : List Rule
cycle_rules = C1 ∷ C2 ∷ I4 ∷ I5 ∷ []

-- for each of these rules the fault where it is broken; `w` says whether the transfer is a write
abbrev pub cycle_faults : CyclePhase → Bool → Option ℕ → List (Option Fault)
cycle_faults c w answer =
    fault_if C1 (is_read_modify_write_broken c w) answer
    ∷ fault_if C2 (is_direction_changed c w) answer
    ∷ fault_if I4 (is_interrupt_acknowledge c && w) answer
    ∷ fault_if I5 (is_answered_interrupt_acknowledge c) answer
    ∷ []

-- all rules of the handshake
abbrev pub handshake_rules : List Rule
handshake_rules = strobe_rules ++ cycle_rules

-- the first rule on strobes and answers that a step breaks
abbrev pub handshake_fault : HandshakeMemory → TransferPhase → Edges → Option Fault
handshake_fault m e s = first_of_faults (strobe_faults m e s)

-- the first rule on the answers of a cycle that a step breaks
abbrev pub cycle_fault : CyclePhase → Bool → Option ℕ → Option Fault
cycle_fault c w answer = first_of_faults (cycle_faults c w answer)

-- the memory (state of the monitor's automaton) after a step with the edges s
abbrev pub memory_after : HandshakeMemory → Levels → Levels → Edges → HandshakeMemory
memory_after m v w s =
    let e = entered m.transfer v w in
    let c = cycle_entered m.cycle s.shown.cycle in
    record {
      transfer = tracked m.transfer v w;
      cycle = (if is_some (answer_in e s) then after_answer c (is_writing e) else c);
      dtack_may_rise = (is_low (level_at w DTACK) && may_rise m.dtack_may_rise s);
      berr_may_rise = (is_low (level_at w BERR) && may_rise m.berr_may_rise s);
    }

-- the first rule that a step with the edges s breaks
abbrev pub fault_in : HandshakeMemory → Levels → Levels → Edges → Option Fault
fault_in m v w s =
    let e = entered m.transfer v w in
    option_or (handshake_fault m e s) (cycle_fault (cycle_entered m.cycle s.shown.cycle) (is_writing e) (answer_in e s))

-- the memory at the start of a stretch
abbrev pub dtb_begin : Levels → HandshakeMemory
dtb_begin v = record { transfer = Closed; cycle = Free; dtack_may_rise = false; berr_may_rise = false }

-- there is an observation where AS*, a strobe or an answer line moves
abbrev pub dtb_observation : Levels → Levels → List Change → Option (Unit {0})
dtb_observation v w cs = if is_still v w then None else Some tt

-- the result of a step with the edges s
abbrev pub dtb_next : HandshakeMemory → Levels → Levels → Edges → Next HandshakeMemory
dtb_next m v w s =
    record {
      memory = memory_after m v w s;
      fault = fault_in m v w s;
      shown = record s.shown { answer = answered_in (entered m.transfer v w) v w s };
    }

-- the result of an observed step
abbrev pub dtb_step : HandshakeMemory → Levels → Levels → Unit {0} → Next HandshakeMemory
dtb_step m v w moved = dtb_next m v w (edges_between v w)
