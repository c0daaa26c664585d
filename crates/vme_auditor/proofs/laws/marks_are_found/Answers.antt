-- Each monitor shows its marks, and all of them are merged.
use Rattle.std.proofs.Common.{sym, ◌∙◌}
use Rattle.vme_summary.specs.Runs.{acknowledge_run, grant_run, handshake_run, known_run, stability_run}
use Rattle.vme_summary.proofs.Together.{merged-marks_of_monitors}
use Rattle.vme_auditor.specs.Memories.{memories_at}
use Rattle.vme_auditor.proofs.JoinedRuns.{runs_joined}
use Rattle.vme_auditor.proofs.laws.marks_are_found.Goals as goal

pub returns : goal.returns
unfolding known_run handshake_run stability_run grant_run acknowledge_run
returns c =
    λ t ok few.
    sym (runs_joined t.steps (memories_at t.opening) t.opening)
    ∙ merged-marks_of_monitors t _ _ _ _ _ (c.known_over_recordings.ensures.marks t ok few)
    (c.handshake_over_recordings.ensures.marks t ok few) (c.stability_over_recordings.ensures.marks t ok few)
    (c.grants_over_recordings.ensures.marks t ok few) (c.acknowledge_over_recordings.ensures.marks t ok few)
