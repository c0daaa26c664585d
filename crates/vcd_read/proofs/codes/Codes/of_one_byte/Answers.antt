use Rattle.std.proofs.Common.{◌∙◌, arith}
use Rattle.vcd_read.proofs.codes.Codes.of_one_byte.Goals as goal

pub one_byte_net-requires : goal.one_byte_net-requires
one_byte_net-requires c = rw c.as_slice.ensures.value c.self.invariant.1.0

pub returns : goal.returns
returns c =
    let found = rw c.as_slice.ensures.value at c.one_byte_net.ensures in
    rw (← c.self.view_is) (found ∙ c.self.invariant.1.1 c.args.byte (omega (arith, c.ranges.byte.fits)))
