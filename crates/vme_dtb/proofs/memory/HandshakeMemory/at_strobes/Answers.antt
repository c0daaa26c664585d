use Rattle.std.proofs.Common.{◌≡◌, false, arith}
use Rattle.vme_trace.specs.Edges.{rises_between, strobe_falls_between, strobe_rises_between}
use Rattle.vme_trace.specs.LineNumbers.{AS}
use Rattle.vme_dtb.specs.UsualSteps.{strobes_break_rule}
use Rattle.vme_dtb.proofs.UsualNexts.{dtb_next-strobes_alone}
use Rattle.vme_dtb.proofs.memory.HandshakeMemory.at_strobes.Goals as goal

pub returns : goal.returns
returns c =
    let v = c.args.before.now in
    let w = c.args.after.now in
    let unbroken : strobes_break_rule c.args.self.transfer (strobe_rises_between v w) (rises_between v w AS)
    (strobe_falls_between v w)
    ≡ false = grind arith in
    rw (
      c.left.ensures,
      c.entered-entered.ensures,
      c.strobe_rises-strobe_rises.ensures,
      c.rises-cycle_end.ensures,
      c.transfer_started.ensures,
      c.closes.ensures,
    ) (dtb_next-strobes_alone c.args.self v w c.requires unbroken)
