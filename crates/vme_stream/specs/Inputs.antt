-- The result of reading an input.
use Rattle.std.specs.Prelude.{◌≡◌, ◌+◌, ◌≤◌, ◌<◌, ◌⊎◌, ℕ, suc, List, length, Option, Some, None, IfSome}
use Rattle.vme_trace.specs.Streams.{Reading}

-- how many bytes an input has at most
abbrev pub longest_input : ℕ
longest_input = 268435456

-- after how many reads that gave bytes, and didn't reach the end, reading is given up
abbrev pub most_reads : ℕ
most_reads = 16777216

-- for how many bytes each read has room, at least
abbrev pub least_room : ℕ
least_room = 4096

-- how many reads at most are full, i.e. give as many bytes as they have room for: all but the last of them together
-- give at most `longest_input` bytes
abbrev pub most_full_reads : ℕ
most_full_reads = 65537

-- how many reads at least were short, where reading is given up: all that gave bytes but `most_full_reads`
abbrev pub fewest_short_reads : ℕ
fewest_short_reads = 16711679

-- of the reads that gave bytes at most `most_full_reads` were full
abbrev pub HasFewFullReads : Reading → Reading → Type 0
HasFewFullReads old new = new.reads + old.short_reads ≤ old.reads + new.short_reads + most_full_reads

-- no read failed, and reading wasn't given up
pub record IsInTime (old new : Reading) : Type 0 where
  pub failures : new.failures ≡ old.failures
  pub reads : new.reads < old.reads + most_reads

-- no read failed, and reading was given up: `most_reads` reads gave bytes, and at least `fewest_short_reads` of these
-- were short
pub record GivesUp (old new : Reading) : Type 0 where
  pub failures : new.failures ≡ old.failures
  pub reads : new.reads ≡ old.reads + most_reads
  pub short_reads : old.short_reads + fewest_short_reads ≤ new.short_reads
  pub told : IfSome old.left (λ told. most_reads ≤ length told)

-- `Some bytes`: the source was read in time, and these are its bytes, where its bytes are known. `None`: the source
-- can't be read: a read failed, or reading was given up.
abbrev pub IsReading : Reading → Reading → Option (List ℕ) → Type 0
IsReading old new (Some bytes) = IsInTime old new × IfSome old.left (λ told. bytes ≡ told)
IsReading old new None = (new.failures ≡ suc old.failures) ⊎ GivesUp old new

-- The source is known to have these bytes, no read fails, and reading isn't given up: there are fewer than `most_reads`
-- bytes, or fewer reads than that give bytes, or fewer than `fewest_short_reads` reads are short. A source that fills
-- the room that it is offered has at most one short read, the last that gives bytes.
pub record IsReadWhole (old new : Reading) (bytes : List ℕ) : Type 0 where
  pub told : old.left ≡ Some bytes
  pub failures : new.failures ≡ old.failures
  pub in_time : (length bytes < most_reads)
      ⊎ ((new.reads < old.reads + most_reads) ⊎ (new.short_reads < old.short_reads + fewest_short_reads))
