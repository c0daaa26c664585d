use Rattle.vme_dtb.proofs.StabilityJudges.{stability_first_break, stability_marks}
use Rattle.vme_dtb.proofs.stability.stability_over_recordings.Goals as goal

pub returns-clause-first_break : goal.returns-clause-first_break
returns-clause-first_break c = stability_first_break

pub returns-clause-marks : goal.returns-clause-marks
returns-clause-marks c = stability_marks
