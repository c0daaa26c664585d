use Rattle.std.proofs.Common.{◌≡◌, refl, ap, ◌∙◌, arith}
use Rattle.vme_dtb.specs.Edge.{address_below}
use Rattle.vme_dtb.proofs.Addresses.{address_below-next_high, address_below-next_low}
use Rattle.vme_dtb.proofs.edges.address.Goals as goal
use Rattle.vme_dtb.proofs.edges.address.Goals.{then-is_high, else-is_high}

pub loop-bit-init : goal.loop-bit-init
unfolding address_below
loop-bit-init c = (refl, omega arith)

pub loop-bit-preserved : goal.loop-bit-preserved
loop-bit-preserved c =
    elim c.if-is_high.branch [
      | then-is_high w ↦
          address_below-next_high c.args.lines.now c.loop-bit.bit c.loop-bit.address c.if-is_high.address
          c.loop-bit.invariant
          (omega arith) c.address.result c.level.result c.is_high.result (omega arith) c.address.ensures
          c.level.ensures c.is_high.ensures
          w.if-is_high.true w.address-is
      | else-is_high w ↦
          address_below-next_low c.args.lines.now c.loop-bit.bit c.loop-bit.address c.if-is_high.address
          c.loop-bit.invariant
          (omega arith) c.address.result c.level.result c.is_high.result c.address.ensures c.level.ensures
          c.is_high.ensures
          w.if-is_high.false w.address-is
    ]

pub returns : goal.returns
returns c =
    let all : c.loop-bit.bit ≡ 32 = omega arith in
    c.loop-bit.invariant.0 ∙ ap (address_below c.args.lines.now) all
