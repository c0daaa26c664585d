-- If no answer comes and no strobe rises, the state of an open transfer stays.
use Rattle.std.proofs.Common.{◌≡◌, Bool, false, ◌||◌, refl}
use Rattle.vme_dtb.specs.HoldingNumbers.{has_risen, passed, was_answered, writes_of}
use Rattle.vme_dtb.specs.declared.holding.TransferState.{TransferState}
use Rattle.vme_dtb.specs.declared.holding.TransferState.TheVariants.{Fresh, RisenInRead, RisenInWrite, Answered, Over}

-- a state to which nothing is added is the state
pub passed_unchanged : (m : TransferState) (low : Bool) → passed (was_answered m || false) (has_risen m || false)
    (writes_of m low) ≡ m
passed_unchanged Fresh low = refl
passed_unchanged RisenInRead low = refl
passed_unchanged RisenInWrite low = refl
passed_unchanged Answered low = refl
passed_unchanged Over low = refl
