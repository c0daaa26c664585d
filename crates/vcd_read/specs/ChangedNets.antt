-- The nets that have a value.
use Rattle.std.specs.Prelude.{ℕ, ◌<◌, List, length, Option, None, IsSome, All, Contains, get_or}
use Rattle.vcd_read.specs.declared.dump.Bit.{Bit}

-- each net that has a value is in the list
pub record ListsChangedNets (changed_nets : List ℕ) (current : List (Option (List Bit))) : Type 0 where
  pub below : All (λ (net : ℕ). net < length current) changed_nets
  pub listed : (net : ℕ) → IsSome (get_or current net None) → Contains changed_nets net
