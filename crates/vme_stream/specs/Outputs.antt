-- What a writer takes.
use Rattle.std.specs.Prelude.{◌≡◌, ◌⊎◌, ℕ, suc, List, take}
use Rattle.std.specs.Io.KnownBytes.{Appends}
use Rattle.vme_trace.specs.Streams.{Writing}

-- all of a text was taken, and no write failed
abbrev pub Writes : Writing → Writing → List ℕ → Type 0
Writes old new text = Appends old.taken new.taken text × (new.failures ≡ old.failures)

-- a write failed after a prefix of the text was taken, and none was made after it
abbrev pub FailsToWrite : Writing → Writing → List ℕ → Type 0
FailsToWrite old new text = ((n : ℕ) × Appends old.taken new.taken (take n text)) × (new.failures ≡ suc old.failures)

-- all of a text was taken, or a write failed
abbrev pub TriesToWrite : Writing → Writing → List ℕ → Type 0
TriesToWrite old new text = Writes old new text ⊎ FailsToWrite old new text
