-- The number of each memory of the handshake (state of the monitor's automaton).
use Rattle.std.proofs.Common.{◌≡◌, ℕ, ◌+◌, ◌*◌, ◌/◌, ◌%◌, ◌<◌, ◌≤◌, Bool, true, false, refl, ap, ◌∙◌, arith}
use Rattle.std.specs.Prelude.{◌==◌, if◌then◌else◌}
use Rattle.vme_monitor.specs.Tracking.{transfer_phase_nth, transfer_phase_place}
use Rattle.vme_monitor.specs.declared.tracking.TransferPhase.{TransferPhase}
use Rattle.vme_monitor.specs.declared.tracking.TransferPhase.TheVariants.{Closed, Reading, Writing, Answered}
use Rattle.vme_dtb.specs.declared.cycle.CyclePhase.{CyclePhase}
use Rattle.vme_dtb.specs.declared.cycle.CyclePhase.TheVariants.{Free, Single, SingleRead, SingleDone, Block}
use Rattle.vme_dtb.specs.declared.cycle.CyclePhase.TheVariants.{BlockReading}
use Rattle.vme_dtb.specs.declared.cycle.CyclePhase.TheVariants.{BlockWriting, Interrupt, InterruptDone}
use Rattle.vme_dtb.specs.declared.memory.HandshakeMemory.{HandshakeMemory}

-- the number of the phase of a cycle
abbrev pub cycle_place : CyclePhase → ℕ
cycle_place Free = 0
cycle_place Single = 1
cycle_place SingleRead = 2
cycle_place SingleDone = 3
cycle_place Block = 4
cycle_place BlockReading = 5
cycle_place BlockWriting = 6
cycle_place Interrupt = 7
cycle_place InterruptDone = 8

-- the phase of a cycle with a number
abbrev pub cycle_nth : ℕ → CyclePhase
cycle_nth k =
    if k == 0 then Free else if k == 1 then Single else if k == 2 then SingleRead else if k == 3 then SingleDone
    else if k == 4 then Block else if k == 5 then BlockReading else if k == 6 then BlockWriting
    else if k == 7 then Interrupt else InterruptDone

-- a truth value as a number
abbrev pub bit : Bool → ℕ
bit true = 1
bit false = 0

-- the number of a memory
abbrev pub memory_place : HandshakeMemory → ℕ
memory_place m = 36 * transfer_phase_place m.transfer + 4 * cycle_place m.cycle + 2 * bit m.dtack_may_rise + bit
    m.berr_may_rise

-- the memory with a number
abbrev pub memory_nth : ℕ → HandshakeMemory
memory_nth k = record {
  transfer = transfer_phase_nth (k / 36);
  cycle = cycle_nth ((k / 4) % 9);
  dtack_may_rise =
      ((k / 2) % 2 == 1);
  berr_may_rise = (k % 2 == 1);
}

transfer_phase_below : (p : TransferPhase) → transfer_phase_place p < 4
transfer_phase_below Closed = omega arith
transfer_phase_below Reading = omega arith
transfer_phase_below Writing = omega arith
transfer_phase_below Answered = omega arith

cycle_below : (c : CyclePhase) → cycle_place c < 9
cycle_below Free = omega arith
cycle_below Single = omega arith
cycle_below SingleRead = omega arith
cycle_below SingleDone = omega arith
cycle_below Block = omega arith
cycle_below BlockReading = omega arith
cycle_below BlockWriting = omega arith
cycle_below Interrupt = omega arith
cycle_below InterruptDone = omega arith

bit_below : (b : Bool) → bit b < 2
bit_below true = omega arith
bit_below false = omega arith

all_below : (p c a b : ℕ) → p < 4 → c < 9 → a < 2 → b < 2 → 36 * p + 4 * c + 2 * a + b < 144
all_below p c a b hp hc ha hb = omega arith

pub memory_placed : (m : HandshakeMemory) → memory_place m < 144
memory_placed m = all_below (transfer_phase_place m.transfer) (cycle_place m.cycle) (bit m.dtack_may_rise)
    (bit m.berr_may_rise)
    (transfer_phase_below m.transfer) (cycle_below m.cycle) (bit_below m.dtack_may_rise) (bit_below m.berr_may_rise)

transfer_phase_found : (p : TransferPhase) → transfer_phase_nth (transfer_phase_place p) ≡ p
transfer_phase_found Closed = refl
transfer_phase_found Reading = refl
transfer_phase_found Writing = refl
transfer_phase_found Answered = refl

cycle_found : (c : CyclePhase) → cycle_nth (cycle_place c) ≡ c
cycle_found Free = refl
cycle_found Single = refl
cycle_found SingleRead = refl
cycle_found SingleDone = refl
cycle_found Block = refl
cycle_found BlockReading = refl
cycle_found BlockWriting = refl
cycle_found Interrupt = refl
cycle_found InterruptDone = refl

bit_found : (b : Bool) → (bit b == 1) ≡ b
bit_found true = refl
bit_found false = refl

first_part : (p c a b : ℕ) → c < 9 → a < 2 → b < 2 → (36 * p + 4 * c + 2 * a + b) / 36 ≡ p
first_part p c a b hc ha hb = omega arith

second_part : (p c a b : ℕ) → c < 9 → a < 2 → b < 2 → ((36 * p + 4 * c + 2 * a + b) / 4) % 9 ≡ c
second_part p c a b hc ha hb = omega arith

third_part : (p c a b : ℕ) → a < 2 → b < 2 → ((36 * p + 4 * c + 2 * a + b) / 2) % 2 ≡ a
third_part p c a b ha hb = omega arith

fourth_part : (p c a b : ℕ) → b < 2 → (36 * p + 4 * c + 2 * a + b) % 2 ≡ b
fourth_part p c a b hb = omega arith

same_memory : (m : HandshakeMemory) (p : TransferPhase) (c : CyclePhase) (a b : Bool) → p ≡ m.transfer → c ≡ m.cycle → a
    ≡ m.dtack_may_rise
    → b ≡ m.berr_may_rise → record { transfer = p; cycle = c; dtack_may_rise = a; berr_may_rise = b } ≡ m
same_memory m p c a b hp hc ha hb = rw (hp, hc, ha, hb) refl

pub memory_found : (m : HandshakeMemory) → memory_nth (memory_place m) ≡ m
memory_found m =
    let p = transfer_phase_place m.transfer in
    let c = cycle_place m.cycle in
    let a = bit m.dtack_may_rise in
    let b = bit m.berr_may_rise in
    let hc = cycle_below m.cycle in
    let ha = bit_below m.dtack_may_rise in
    let hb = bit_below m.berr_may_rise in
    same_memory m _ _ _ _
    (ap transfer_phase_nth (first_part p c a b hc ha hb) ∙ transfer_phase_found m.transfer)
    (ap cycle_nth (second_part p c a b hc ha hb) ∙ cycle_found m.cycle)
    (ap (λ k. k == 1) (third_part p c a b ha hb) ∙ bit_found m.dtack_may_rise)
    (ap (λ k. k == 1) (fourth_part p c a b hb) ∙ bit_found m.berr_may_rise)

pub memories_few : 144 ≤ 509
memories_few = omega arith
