use Rattle.vme_dtb.proofs.HandshakeJudges.{dtb_first_break, dtb_marks}
use Rattle.vme_dtb.proofs.handshake.handshake_over_recordings.Goals as goal

pub returns-clause-first_break : goal.returns-clause-first_break
returns-clause-first_break c = dtb_first_break

pub returns-clause-marks : goal.returns-clause-marks
returns-clause-marks c = dtb_marks
