-- The lines that take their levels from the bits of a net.
use Rattle.std.specs.Prelude.{ℕ, zero, suc, Bool, false, ◌==◌, List, [], ◌∷◌, map, Option, Some, None}
use Rattle.std.specs.Global.{Vec}
use Rattle.vme_trace.specs.Instants.{those}
use Rattle.vme_bind.specs.declared.net_lines.LineBit.{LineBit}
use Rattle.vme_bind.specs.declared.net_lines.NetLines.{NetLines}
use Rattle.vme_bind.specs.declared.bound_groups.BoundGroup.{BoundGroup}
use Rattle.vme_bind.specs.declared.bound_groups.LineSource.{LineSource}
use Rattle.vme_bind.specs.declared.bound_groups.LineSource.TheVariants.{Always, Bit}
use Rattle.vme_bind.specs.BoundGroups.{line_source}

-- the lines of a net, if it has any
unfoldable pub line_bits_on : List (Vec LineBit) → ℕ → List LineBit
line_bits_on [] net = []
line_bits_on (line_bits ∷ nets) zero = line_bits.items
line_bits_on (line_bits ∷ nets) (suc net) = line_bits_on nets net

-- the lines of a net, each with the place of its bit
abbrev pub line_bits_of : NetLines → ℕ → List LineBit
line_bits_of line_bits net = line_bits_on line_bits.nets.items net

-- the source is a bit of `net`
abbrev pub is_on : ℕ → Option LineSource → Bool
is_on net None = false
is_on net (Some (Always level)) = false
is_on net (Some (Bit bit)) = net == bit.net

-- the place of the bit that is the source
abbrev pub place_in : Option LineSource → ℕ
place_in None = 0
place_in (Some (Always level)) = 0
place_in (Some (Bit bit)) = bit.place

module _ (slots : ℕ) (bound_groups : List BoundGroup) where
  -- the line l takes its level from a bit of `net`
  unfoldable pub is_line_bit : ℕ → ℕ → Bool
  is_line_bit net l = is_on net (line_source slots bound_groups l)

  -- the line l, with the place of its bit
  abbrev pub line_bit_at : ℕ → LineBit
  line_bit_at l = record { line = l; place = place_in (line_source slots bound_groups l) }

  -- the line bits of `net` on the lines below `end`, by ascending line number
  abbrev pub line_bits_below : ℕ → ℕ → List LineBit
  line_bits_below net end = map line_bit_at (those (is_line_bit net) 0 end)
