-- The events without which rules can't be broken, and the event of each rule.
use Rattle.vme_trace.specs.declared.rule.Rule.{Rule}
use Rattle.vme_trace.specs.declared.rule.Rule.TheVariants as rule

-- an event without which some rules can't be broken
pub data Event : Type 0 where
  -- judging starts
  stretch : Event
  -- a cycle starts
  cycle : Event
  -- the address strobe rises
  cycle_end : Event
  -- a transfer starts
  transfer : Event
  -- a write starts
  write : Event
  -- a data strobe rises within a transfer
  strobe_rise : Event
  -- a data strobe falls within a transfer
  strobe_fall : Event
  -- an answer line falls
  answer_fall : Event
  -- an answer line rises
  answer_rise : Event
  -- a transfer is answered
  answer : Event
  -- a further transfer of a single cycle is answered
  single_again : Event
  -- a further transfer of a block transfer is answered
  block_again : Event
  -- a transfer of an interrupt acknowledge is answered
  interrupt : Event
  -- a further transfer of an interrupt acknowledge is answered
  interrupt_again : Event
  -- a bus grant out of a slot falls
  slot_grant_fall : Event
  -- a bus grant out of a slot rises
  slot_grant_rise : Event
  -- a bus grant of the arbiter falls
  arbiter_fall : Event
  -- a bus grant of the arbiter or of a slot falls
  grant_fall : Event
  -- the bus becomes busy
  tenure : Event
  -- IACKOUT of a slot falls
  acknowledge_fall : Event

-- the event without which a rule can't be broken
abbrev pub event_of : Rule → Event
event_of rule.U1 = stretch
event_of rule.U2 = cycle
event_of rule.U3 = transfer
event_of rule.U4 = write
event_of rule.H1 = transfer
event_of rule.H2 = strobe_rise
event_of rule.H3 = strobe_fall
event_of rule.H4 = answer_fall
event_of rule.H5 = answer_fall
event_of rule.H6 = answer_rise
event_of rule.H7 = cycle_end
event_of rule.H8 = answer
event_of rule.S1 = cycle
event_of rule.S2 = transfer
event_of rule.S3 = write
event_of rule.C1 = single_again
event_of rule.C2 = block_again
event_of rule.G1 = slot_grant_fall
event_of rule.G2 = slot_grant_rise
event_of rule.G3 = arbiter_fall
event_of rule.G4 = grant_fall
event_of rule.G5 = arbiter_fall
event_of rule.B1 = tenure
event_of rule.B2 = tenure
event_of rule.B3 = cycle
event_of rule.B4 = tenure
event_of rule.I1 = acknowledge_fall
event_of rule.I2 = acknowledge_fall
event_of rule.I3 = acknowledge_fall
event_of rule.I4 = interrupt
event_of rule.I5 = interrupt_again
