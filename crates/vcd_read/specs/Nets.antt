-- The nets by their codes.
use Rattle.std.specs.Prelude.{◌≡◌, ℕ, ◌<◌, ◌^◌, List, length}
use Rattle.vcd_read.specs.declared.codes.NetCode.{NetCode}
use Rattle.vcd_read.specs.declared.code_index.CodeIndex.{CodeIndex}
use Rattle.vcd_read.specs.Header.{Net, net_of}
use Rattle.vcd_read.specs.CodeIndexes.{net_at}

-- a net by its code and its size, as the grammar has it
abbrev pub net_code : NetCode → Net
net_code n = record { code = n.code.items; size = n.size }

-- the index has each code's net
pub record AreIndexed (nets : List Net) (index : CodeIndex) : Type 0 where
  pub few : length nets < 2 ^ 32
  pub found : (code : List ℕ) → net_at index code ≡ net_of nets code
