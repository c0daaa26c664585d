use Rattle.std.proofs.Common.{refl, sym}
use Rattle.vcd_read.proofs.Fill.{take-extended_fill, take-extended_digit}
use Rattle.vcd_read.proofs.bits.extended.Goals as goal
use Rattle.vcd_read.proofs.bits.extended.Goals.{then-place-missing, else-place-missing}

pub loop-place-preserved : goal.loop-place-preserved
loop-place-preserved c =
    let size = c.args.size in
    let digits = c.args.digits.now in
    let place = c.loop-place.place in
    elim c.if-place-missing.branch [
      | then-place-missing w ↦
          let more = take-extended_fill size digits place _ c.requires.some c.requires.fits refl w.if-place-missing.true
          in
          record {
            items = rw (
              w.bits-is,
              w.push_reserved.ensures.items,
              c.loop-place.invariant.items,
              c.fill_of-fill.ensures,
              c.bit_of.ensures,
            ) (sym more);
            room = rw (w.bits-is, w.push_reserved.ensures.capacity) c.loop-place.invariant.room;
          }
      | else-place-missing w ↦
          let more = take-extended_digit size digits place _ c.requires.fits refl w.if-place-missing.false
          c.loop-place-test.true
          in
          record {
            items = rw (
              w.bits-is,
              w.push_reserved-else-place-missing.ensures.items,
              c.loop-place.invariant.items,
              w.bit_of-else-place-missing.ensures,
            ) (sym more);
            room = rw (w.bits-is, w.push_reserved-else-place-missing.ensures.capacity) c.loop-place.invariant.room;
          }
    ]
