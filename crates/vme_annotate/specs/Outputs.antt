-- The output of an `OutputBuffer`: what is written to the sink, and what the buffer still holds. `start` is the state
-- of the sink before the first write, and `now` the one after the last.
use Rattle.std.specs.Prelude.{◌≡◌, ℕ, Bool, true, false, List, [], ◌++◌}
use Rattle.vme_trace.specs.Streams.{Writing}
use Rattle.vme_stream.specs.Outputs.{FailsToWrite, Writes}

-- the bytes that are held, and whether a write failed
pub record Held : Type 0 where
  pub bytes : List ℕ
  pub failed : Bool

-- no bytes are held, and no write failed
abbrev pub nothing_held : Held
nothing_held = record { bytes = []; failed = false }

-- of the text `made` a prefix is written, and the rest, `held`, is held
abbrev pub IsHeld : Writing → Writing → List ℕ → List ℕ → Type 0
IsHeld start now held made = (front : List ℕ) × (made ≡ front ++ held) × Writes start now front

-- the text `made` was put: a write of it failed (`true`), or it is written or held (`false`)
abbrev pub HasPutBy : Bool → Writing → Writing → List ℕ → List ℕ → Type 0
HasPutBy true start now held made = FailsToWrite start now made
HasPutBy false start now held made = IsHeld start now held made

-- since `start` the text `made` was put: it is written or held, or a write of it failed
abbrev pub HasPut : Writing → Writing → Held → List ℕ → Type 0
HasPut start now b made = HasPutBy b.failed start now b.bytes made
