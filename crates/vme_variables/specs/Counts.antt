-- How many value changes a dump has of each net.
use Rattle.std.specs.Prelude.{ℕ, ◌+◌, ◌^◌, ◌-◌, min, List, get_or, slice_set}

-- the value changes of each net, and the time of the last instant
pub record Counts : Type 0 where
  pub counts : List ℕ
  pub last : ℕ

-- one value change more of a net; no count goes past the greatest number of 64 bits
abbrev pub count_change : Counts → ℕ → Counts
count_change c net = record c { counts = slice_set c.counts net (min (get_or c.counts net 0 + 1) (2 ^ 64 - 1)) }

-- the end of an instant
abbrev pub with_last_instant : Counts → ℕ → Counts
with_last_instant c time = record c { last = time }
