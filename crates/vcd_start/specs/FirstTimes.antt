-- The first time of a dump.
use Rattle.std.specs.Prelude.{◌≡◌, ℕ, List, Option, Ok, option_map, slice_get}
use Rattle.vcd_read.specs.Contents.{Contents}
use Rattle.vcd_read.specs.Meaning.{dump_of}
use Rattle.vcd_read.specs.declared.dump.Instant.{Instant}
use Rattle.vcd_start.specs.declared.first_time.FirstTime.{FirstTime}
use Rattle.vcd_start.specs.declared.first_time.FirstTime.TheVariants.{Determined, Undetermined}

-- the time of the first of some instants, if there is one
abbrev pub first_time_of : List Instant → Option ℕ
first_time_of instants = option_map (λ (i : Instant). i.time) (slice_get instants 0)

-- the first time of a dump, if it has one: 0 if a change precedes every time stamp, or else the first time stamp
abbrev pub first_time_of_dump : Contents → Option ℕ
first_time_of_dump dump = first_time_of dump.instants

-- if a text is a dump, this is its first time
abbrev pub HasFirstTime : List ℕ → Option ℕ → Type 0
HasFirstTime text time = (dump : Contents) → dump_of text ≡ Ok dump → first_time_of_dump dump ≡ time

-- what a `FirstTime` says of the first time of a text holds
abbrev pub DeterminesFirstTime : List ℕ → FirstTime → Type 0
DeterminesFirstTime text Undetermined = Unit {0}
DeterminesFirstTime text (Determined time) = HasFirstTime text time
