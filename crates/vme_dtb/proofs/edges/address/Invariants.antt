use Rattle.std.proofs.Common.{◌≡◌, ◌<◌, ◌^◌}
use Rattle.vme_dtb.specs.Edge.{address_below}
use Rattle.vme_dtb.proofs.edges.address.Given as goal

-- `address` is that of the address lines below `bit`
abbrev pub invariant-loop-bit : goal.invariant-loop-bit
invariant-loop-bit l = (l.address ≡ address_below l.lines l.bit) × (l.address < 2 ^ l.bit)
