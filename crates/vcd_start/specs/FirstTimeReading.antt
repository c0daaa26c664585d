-- How far the first time of a dump is read.
use Rattle.std.specs.Prelude.{◌≡◌, ℕ, List, [], ◌++◌, Option, Some, Ok}
use Rattle.std.specs.Option.{option_or}
use Rattle.vcd_read.specs.declared.dump.Bit.{Bit}
use Rattle.vcd_read.specs.Contents.{Contents}
use Rattle.vcd_read.specs.Header.{◌>>=◌}
use Rattle.vcd_read.specs.Meaning.{dump_of}
use Rattle.vcd_read.specs.Reached.{Reached, rest_of}
use Rattle.vcd_read.specs.BodyFold.{at_end}
use Rattle.vcd_read.specs.Tokens.{Token, tokens}
use Rattle.vcd_start.specs.FirstTimes.{first_time_of_dump}

-- a change doesn't alter the first time
abbrev pub first_time_kept : Option ℕ → ℕ → List Bit → Option ℕ
first_time_kept first_time net bits = first_time

-- the end of an instant at `time` gives the first time, unless there is one already
abbrev pub first_time_or : Option ℕ → ℕ → Option ℕ
first_time_or first_time time = option_or first_time (Some time)

-- to read on from `reached` with the tokens `more`, up to the end, gives the first time of `dump`
abbrev pub LeadsToFirstTime : Reached (Option ℕ) → List Token → Contents → Type 0
LeadsToFirstTime reached more dump =
    (rest_of first_time_kept first_time_or reached [] more >>= at_end first_time_or) ≡ Ok (first_time_of_dump dump)

-- in each dump whose tokens begin with those of `front`, reading has come to `reached` after them
abbrev pub IsFirstTimeRead : List ℕ → Reached (Option ℕ) → Type 0
IsFirstTimeRead front reached = (text : List ℕ) (more : List Token) (dump : Contents)
    → tokens text ≡ tokens front ++ more → dump_of text ≡ Ok dump → LeadsToFirstTime reached more dump
