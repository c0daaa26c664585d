use Rattle.vme_dtb.proofs.Faults.{cycle_fault-no_answer}
use Rattle.vme_dtb.proofs.handshake.cycle_fault.Goals as goal

pub returns-in-None : goal.returns-in-None
returns-in-None c = rw c.in-None.is (cycle_fault-no_answer c.args.cycle c.args.write)
