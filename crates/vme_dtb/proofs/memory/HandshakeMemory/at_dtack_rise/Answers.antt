use Rattle.std.proofs.Common.{◌≡◌, true, arith}
use Rattle.vme_dtb.proofs.UsualNexts.{dtb_next-answer_rises}
use Rattle.vme_dtb.proofs.memory.HandshakeMemory.at_dtack_rise.Goals as goal

pub returns : goal.returns
returns c =
    let gone : c.args.self.dtack_may_rise ≡ true = grind arith in
    rw (c.quiet.ensures, c.left.ensures) (dtb_next-answer_rises c.args.self c.args.before.now c.args.after.now
    c.requires.alone
    c.requires.rises gone)
