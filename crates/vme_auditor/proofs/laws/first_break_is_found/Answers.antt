-- Each monitor finds its least break, and the least of them is the first one step by step.
use Rattle.std.proofs.Common.{sym, ◌∙◌}
use Rattle.vme_summary.specs.Runs.{acknowledge_run, grant_run, handshake_run, known_run, stability_run}
use Rattle.vme_summary.proofs.Together.{least_of-monitors}
use Rattle.vme_auditor.specs.Memories.{memories_at}
use Rattle.vme_auditor.proofs.FirstBreaks.{named_break-verdict, least_event-first_break}
use Rattle.vme_auditor.proofs.laws.first_break_is_found.Goals as goal

pub returns : goal.returns
unfolding known_run handshake_run stability_run grant_run acknowledge_run
returns c =
    λ t ok few.
    named_break-verdict t
    ∙ sym (least_of-monitors t _ _ _ _ _ (c.known_over_recordings.ensures.first_break t ok few)
    (c.handshake_over_recordings.ensures.first_break t ok few) (c.stability_over_recordings.ensures.first_break t ok
    few) (c.grants_over_recordings.ensures.first_break t ok few) (c.acknowledge_over_recordings.ensures.first_break t ok
    few))
    ∙ least_event-first_break t.steps (memories_at t.opening) t.opening
