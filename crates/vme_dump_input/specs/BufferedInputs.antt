-- How far an input is read, and which of its bytes are held.
use Rattle.std.specs.Prelude.{◌≡◌, ℕ, suc, ◌+◌, ◌-◌, ◌*◌, ◌≤◌, ◌<◌, if◌then◌else◌, Bool, true, false, List, [], ◌++◌}
use Rattle.std.specs.Prelude.{length, Option, None, Some, IfSome}
use Rattle.std.specs.Io.KnownBytes.{Consumes}
use Rattle.vme_trace.specs.Streams.{Reading}
use Rattle.vme_stream.specs.Inputs.{IsReading, most_reads}
use Rattle.vme_stream.specs.declared.input.InFault.{InFault}
use Rattle.vme_listing.specs.Reading.{IsFollowedBy}
use Rattle.vme_stream.specs.declared.input.InFault.TheVariants.{Read, TooLong, Memory}

-- the bytes that are held of an input; its limit, and how much room each read has; how many bytes were read, and how
-- many reads gave some; and whether its end was reached
pub record InputSoFar : Type 0 where
  pub held : List ℕ
  pub limit : ℕ
  pub room : ℕ
  pub read : ℕ
  pub reads : ℕ
  pub is_whole : Bool

-- each read has room for 1 to 4,194,304 bytes, and the limit is at most what 65,536 full reads give
pub record IsRoomFor (limit room : ℕ) : Type 0 where
  pub some : 0 < room
  pub few : limit ≤ 65536 * room
  pub small : room ≤ 4194304

-- an input of which nothing is read yet
abbrev pub not_read : ℕ → ℕ → InputSoFar
not_read limit room =
    record { held = []; limit = limit; room = room; read = 0; reads = 0; is_whole = false }

-- `full` of the `reads` reads that gave `bytes` bytes were full: they gave as many bytes as they had room for
pub record HasFull (old now : Reading) (reads room bytes full : ℕ) : Type 0 where
  pub counted : old.short_reads + reads ≡ now.short_reads + full
  pub enough : full * room ≤ bytes

-- if the input is whole, `bytes` are all bytes of its source, where these are known, and at most `limit` were read
abbrev pub HasAllIfWhole : Bool → Reading → List ℕ → ℕ → ℕ → Type 0
HasAllIfWhole true old bytes read limit = IfSome old.left (λ all. bytes ≡ all) × (read ≤ limit)
HasAllIfWhole false old bytes read limit = Unit {0}

-- a source was read from state `old` to state `now`: of its bytes `done` were taken, and the others are held
pub record IsReadTo (old now : Reading) (done : List ℕ) (input : InputSoFar) : Type 0 where
  pub consumed : Consumes old.left now.left (done ++ input.held)
  pub read : length (done ++ input.held) ≡ input.read
  pub failures : now.failures ≡ old.failures
  pub reads : now.reads ≡ old.reads + input.reads
  pub some : input.reads ≤ input.read
  pub full : ℕ
  pub has_full : HasFull old now input.reads input.room input.read full
  pub bounded : input.reads ≤ most_reads
  pub limits : IsRoomFor input.limit input.room
  pub within : input.read ≤ input.limit + input.room
  pub whole : HasAllIfWhole input.is_whole old (done ++ input.held) input.read input.limit
  pub in_time : input.is_whole ≡ true → input.reads < most_reads

-- the held bytes were kept, and perhaps more were added
pub record IsGrown (before after : InputSoFar) : Type 0 where
  pub more : List ℕ
  pub held : after.held ≡ before.held ++ more

-- the held bytes were kept, and perhaps more were added, but none if the input was whole
pub record IsReadOn (before after : InputSoFar) : Type 0 where
  pub more : List ℕ
  pub held : after.held ≡ before.held ++ more
  pub follows : (rest : List ℕ) → IsFollowedBy after.is_whole rest → IsFollowedBy before.is_whole (more ++ rest)

-- a measure that each read lowers: 0 at the end, else one more than the reads that may still give bytes
abbrev pub reads_left : InputSoFar → ℕ
reads_left input = if input.is_whole then 0 else suc (most_reads - input.reads)

-- `bytes` are all bytes of an input, at most `limit`
abbrev pub IsAllOf : Reading → Reading → List ℕ → ℕ → Type 0
IsAllOf old now bytes limit = IsReading old now (Some bytes) × (length bytes ≤ limit)

-- an input can't be had: it can't be read, has more bytes than the limit, or there was no memory for them
abbrev pub FailsAs : ℕ → Reading → Reading → InFault → Type 0
FailsAs limit old now Read = IsReading old now None
FailsAs limit old now TooLong = (bytes : List ℕ) × (limit < length bytes) × IsReading old now (Some bytes)
FailsAs limit old now Memory = (bytes : Option (List ℕ)) × IsReading old now bytes
