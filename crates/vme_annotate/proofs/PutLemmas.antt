-- What has been put is written, or held to be written later: this still holds after more bytes are put, or written.
use Rattle.std.proofs.Common.{ℕ, ◌+◌, Bool, true, false, List, [], ◌++◌, refl, sym, ap}
use Rattle.std.proofs.Common.{subst}
use Rattle.std.proofs.Common.{◌∙◌, append_assoc}
use Rattle.std.proofs.lemmas.List.{append-nil}
use Rattle.std.proofs.KnownBytes.{Appends-nil}
use Rattle.vme_trace.specs.Streams.{Writing}
use Rattle.vme_stream.specs.Outputs.{FailsToWrite, Writes}
use Rattle.vme_stream.proofs.OutputLemmas.{FailsToWrite-after, FailsToWrite-longer, Writes-append}
use Rattle.std.specs.Prelude.{MatchResult, Ok, Err, Result}
use Rattle.std.specs.Result.{is_err}
use Rattle.vme_annotate.specs.Outputs.{HasPutBy, IsHeld}

-- at the start nothing is put and nothing held
pub IsHeld-nothing : (start : Writing) → IsHeld start start [] []
IsHeld-nothing start = ([], refl, (Appends-nil start.taken, refl))

-- more bytes are put, and held with those that were
pub IsHeld-append : (start now : Writing) (held made bytes : List ℕ) → IsHeld start now held made
    → IsHeld start now (held ++ bytes) (made ++ bytes)
IsHeld-append start now held made bytes is = (
  is.0,
  ap (λ (l : List ℕ). l ++ bytes) is.1 ∙ append_assoc is.0 held bytes,
  is.2,
)

-- the bytes that are held are written: then nothing is held
pub IsHeld-written : (start mid now : Writing) (held made : List ℕ) → IsHeld start mid held made → Writes mid now held
    → IsHeld start now [] made
IsHeld-written start mid now held made is one = (
  made,
  sym (append-nil made),
  subst (λ (text : List ℕ). Writes start now text) (sym is.1) (Writes-append start mid now is.0 held is.2 one),
)

-- a write of the bytes that are held fails: then a write of all that was put has failed
pub IsHeld-failed : (start mid now : Writing) (held made : List ℕ) → IsHeld start mid held made
    → FailsToWrite mid now held → FailsToWrite start now made
IsHeld-failed start mid now held made is one =
    subst (λ (text : List ℕ). FailsToWrite start now text) (sym is.1)
    (FailsToWrite-after start mid now is.0 held is.2 one)

-- if nothing is held, bytes are put by a write of them, which may fail
pub HasPutBy-write : {A E : Type 0} (start old new : Writing) (made bytes : List ℕ) (r : Result A E)
    → MatchResult r (λ _. Writes old new bytes) (λ _. FailsToWrite old new bytes) → IsHeld start old [] made
    → HasPutBy (is_err r) start new [] (made ++ bytes)
HasPutBy-write start old new made bytes (Ok a) one is =
    IsHeld-written start old new bytes (made ++ bytes) (IsHeld-append start old [] made bytes is) one
HasPutBy-write start old new made bytes (Err e) one is =
    IsHeld-failed start old new bytes (made ++ bytes) (IsHeld-append start old [] made bytes is) one

-- the bytes that are held are written, or a write of them fails
pub HasPutBy-flush : {A E : Type 0} (start old new : Writing) (held made : List ℕ) (r : Result A E)
    → MatchResult r (λ _. Writes old new held) (λ _. FailsToWrite old new held) → IsHeld start old held made
    → HasPutBy (is_err r) start new [] made
HasPutBy-flush start old new held made (Ok a) one is = IsHeld-written start old new held made is one
HasPutBy-flush start old new held made (Err e) one is = IsHeld-failed start old new held made is one

-- more bytes are put and held, or a write has failed before
pub HasPutBy-append : (failed : Bool) (start now : Writing) (held made bytes : List ℕ)
    → HasPutBy failed start now held made
    → HasPutBy failed start now (held ++ bytes) (made ++ bytes)
HasPutBy-append true start now held made bytes put = FailsToWrite-longer start now made bytes put
HasPutBy-append false start now held made bytes put = IsHeld-append start now held made bytes put
