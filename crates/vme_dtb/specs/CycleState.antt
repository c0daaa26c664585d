-- What the cycle that started last still admits, from its class and the directions of its answers.
use Rattle.std.specs.Prelude.{Bool, true, false, not, Option, None, Some}
use Rattle.vme_trace.specs.declared.class.Class.{Class}
use Rattle.vme_trace.specs.declared.class.Class.TheVariants as class
use Rattle.vme_monitor.specs.declared.mark.CycleStart.{CycleStart}
use Rattle.vme_dtb.specs.declared.cycle.CyclePhase.{CyclePhase}
use Rattle.vme_dtb.specs.declared.cycle.CyclePhase.TheVariants.{Free, Single, SingleRead, SingleDone, Block}
use Rattle.vme_dtb.specs.declared.cycle.CyclePhase.TheVariants.{BlockReading}
use Rattle.vme_dtb.specs.declared.cycle.CyclePhase.TheVariants.{BlockWriting, Interrupt, InterruptDone}

-- a cycle of the class, without an answer
abbrev pub unanswered_of : Class → CyclePhase
unanswered_of class.S = Single
unanswered_of class.K = Block
unanswered_of class.I = Interrupt
unanswered_of class.F = Free

-- the cycle in which an instant is: c, unless another one starts there
abbrev pub cycle_entered : CyclePhase → Option CycleStart → CyclePhase
cycle_entered c None = c
cycle_entered c (Some cycle_start) = unanswered_of cycle_start.class

-- the same cycle after one more answer, of a write or of a read
abbrev pub after_answer : CyclePhase → Bool → CyclePhase
after_answer Free w = Free
after_answer Single true = SingleDone
after_answer Single false = SingleRead
after_answer SingleRead w = SingleDone
after_answer SingleDone w = SingleDone
after_answer Block true = BlockWriting
after_answer Block false = BlockReading
after_answer BlockReading w = BlockReading
after_answer BlockWriting w = BlockWriting
after_answer Interrupt w = InterruptDone
after_answer InterruptDone w = InterruptDone

-- one more answer makes a single cycle other than a read and then a write
abbrev pub is_read_modify_write_broken : CyclePhase → Bool → Bool
is_read_modify_write_broken SingleRead w = not w
is_read_modify_write_broken SingleDone w = true
is_read_modify_write_broken c w = false

-- one more answer changes the direction of a block transfer
abbrev pub is_direction_changed : CyclePhase → Bool → Bool
is_direction_changed BlockReading w = w
is_direction_changed BlockWriting w = not w
is_direction_changed c w = false

-- the cycle is an interrupt acknowledge
abbrev pub is_interrupt_acknowledge : CyclePhase → Bool
is_interrupt_acknowledge Interrupt = true
is_interrupt_acknowledge InterruptDone = true
is_interrupt_acknowledge c = false

-- the cycle is an interrupt acknowledge that was answered
abbrev pub is_answered_interrupt_acknowledge : CyclePhase → Bool
is_answered_interrupt_acknowledge InterruptDone = true
is_answered_interrupt_acknowledge c = false
