-- What has happened in a transfer, and the number of each memory of the held lines (state of the monitor's automaton).
use Rattle.std.proofs.Common.{◌≡◌, refl, ℕ, ◌+◌, ◌<◌, Bool, true, false, lit<}
use Rattle.std.specs.Prelude.{◌/◌, ◌%◌, ◌==◌, if◌then◌else◌}
use Rattle.vme_dtb.specs.declared.holding.Holding.{Holding}
use Rattle.vme_dtb.specs.declared.holding.TransferState.{TransferState}
use Rattle.vme_dtb.specs.declared.holding.TransferState.TheVariants.{Fresh, RisenInRead, RisenInWrite, Answered, Over}

-- an answer has come
abbrev pub was_answered : TransferState → Bool
was_answered Fresh = false
was_answered RisenInRead = false
was_answered RisenInWrite = false
was_answered Answered = true
was_answered Over = true

-- a data strobe has risen
abbrev pub has_risen : TransferState → Bool
has_risen Fresh = false
has_risen RisenInRead = true
has_risen RisenInWrite = true
has_risen Answered = false
has_risen Over = true

-- the transfer is a write that has had no answer; `low` says whether WRITE* is low
abbrev pub writes_of : TransferState → Bool → Bool
writes_of Fresh low = low
writes_of RisenInRead low = false
writes_of RisenInWrite low = true
writes_of Answered low = false
writes_of Over low = false

-- the state of a transfer, by whether it was answered, a strobe has risen in it, and it is a write
abbrev pub passed : Bool → Bool → Bool → TransferState
passed true true w = Over
passed true false w = Answered
passed false true true = RisenInWrite
passed false true false = RisenInRead
passed false false w = Fresh

-- the number of what has happened in a transfer
abbrev pub transfer_state_place : TransferState → ℕ
transfer_state_place Fresh = 0
transfer_state_place RisenInRead = 1
transfer_state_place RisenInWrite = 2
transfer_state_place Answered = 3
transfer_state_place Over = 4

-- what has happened, by its number
abbrev pub transfer_state_nth : ℕ → TransferState
transfer_state_nth k = if k == 0 then Fresh else if k == 1 then RisenInRead else if k == 2 then RisenInWrite
    else if k == 3 then Answered else Over

-- the number of a memory
abbrev pub holding_place : Holding → ℕ
holding_place m = transfer_state_place m.transfer + (if m.cycle_answered then 5 else 0)

-- the memory with a number
abbrev pub holding_nth : ℕ → Holding
holding_nth k = record { transfer = transfer_state_nth (k % 5); cycle_answered = k / 5 == 1 }

placed_at : (a : TransferState) (b : Bool) → transfer_state_place a + (if b then 5 else 0) < 10
placed_at Fresh true = lit< tt
placed_at Fresh false = lit< tt
placed_at RisenInRead true = lit< tt
placed_at RisenInRead false = lit< tt
placed_at RisenInWrite true = lit< tt
placed_at RisenInWrite false = lit< tt
placed_at Answered true = lit< tt
placed_at Answered false = lit< tt
placed_at Over true = lit< tt
placed_at Over false = lit< tt

pub holding_placed : (m : Holding) → holding_place m < 10
holding_placed m = placed_at m.transfer m.cycle_answered

found_at : (a : TransferState) (b : Bool) → holding_nth (transfer_state_place a + (if b then 5 else 0))
    ≡ record { transfer = a; cycle_answered = b }
found_at Fresh true = refl
found_at Fresh false = refl
found_at RisenInRead true = refl
found_at RisenInRead false = refl
found_at RisenInWrite true = refl
found_at RisenInWrite false = refl
found_at Answered true = refl
found_at Answered false = refl
found_at Over true = refl
found_at Over false = refl

pub holding_found : (m : Holding) → holding_nth (holding_place m) ≡ m
holding_found m = found_at m.transfer m.cycle_answered
