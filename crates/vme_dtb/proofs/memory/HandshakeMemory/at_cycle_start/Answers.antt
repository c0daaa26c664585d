use Rattle.vme_dtb.proofs.UsualNexts.{dtb_next-start_alone}
use Rattle.vme_dtb.proofs.memory.HandshakeMemory.at_cycle_start.Goals as goal

pub returns : goal.returns
returns c = rw (c.left.ensures, c.of_class.ensures, c.cycle_start-cycle_start.ensures)
    (dtb_next-start_alone c.args.self c.args.before.now
    c.args.after.now c.requires)
