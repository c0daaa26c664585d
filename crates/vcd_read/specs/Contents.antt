-- What a dump says.
use Rattle.std.specs.Prelude.{List, map}
use Rattle.std.specs.List.Sorted.{IsStrictlyIncreasing}
use Rattle.vcd_read.specs.declared.dump.Variable.{Variable}
use Rattle.vcd_read.specs.declared.dump.Instant.{Instant}

-- the variables of a dump, and its instants
pub record Contents : Type 0 where
  pub variables : List Variable
  pub instants : List Instant

-- each time is later than the one before it
abbrev pub TimesAscend : List Instant → Type 0
TimesAscend instants = IsStrictlyIncreasing (map (λ (i : Instant). i.time) instants)
