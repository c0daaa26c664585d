use Rattle.std.proofs.Common.{◌≡◌, true, arith}
use Rattle.vme_monitor.specs.Tracking.{is_unanswered}
use Rattle.vme_dtb.proofs.UsualNexts.{dtb_next-answer_alone}
use Rattle.vme_dtb.proofs.memory.HandshakeMemory.at_dtack_fall.Goals as goal

pub returns : goal.returns
returns c =
    let waits : is_unanswered c.args.self.transfer ≡ true = grind arith in
    rw (c.left.ensures, c.cycle_fault.ensures, c.answered.ensures, c.taken.ensures, c.is_writing-write.ensures)
    (dtb_next-answer_alone c.args.self c.args.before.now c.args.after.now c.requires.alone c.requires.falls
    c.requires.addressed
    waits)
