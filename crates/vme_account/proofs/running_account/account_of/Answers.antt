use Rattle.std.proofs.Common.{◌≤◌, ◌∙◌, ap, arith, subst, sym, append-nil, List, []}
use Rattle.vme_auditor.specs.declared.memories.Memories.{Memories}
use Rattle.vme_monitor.specs.OverStretches.{has_started}
use Rattle.vme_summary.specs.Runs.{known_run}
use Rattle.vme_trace.specs.Levels.{Levels}
use Rattle.vme_trace.specs.Trace.{recorded}
use Rattle.vme_trace.specs.declared.step.Step.{Step}
use Rattle.vme_account.proofs.AccountLemmas.{count_by-recorded, found-named_break, open_row-recorded}
use Rattle.vme_account.proofs.AccountLemmas.{has_started-reached}
use Rattle.vme_account.proofs.FollowLemmas.{levels_at-last}
use Rattle.vme_account.specs.KnownTimes.{AreTimes}
use Rattle.vme_account.specs.StepsReached.{reached}
use Rattle.vme_account.specs.StretchEvents.{AreEvents}
use Rattle.vme_account.specs.declared.running_account.RunningAccount.{RunningAccount}
use Rattle.vme_account.proofs.running_account.account_of.Goals as goal

pub returns : goal.returns
unfolding known_run
returns c = λ t keeps opens ok.
    let few : t.opening.slots ≤ 21 =
    subst (λ (v : Levels). v.slots ≤ 21) opens (omega (arith, c.slots.ensures.slots, c.slots.ensures.most)) in
    let finds = c.first_break_is_found.ensures in
    let shows = c.marks_are_found.ensures in
    let j = keeps.judged in
    let is_marked = ap (λ (r : RunningAccount). r.judged.notes.marked) c.deref.ensures ∙ j.marked in
    record {
      opening = opens;
      found = j.found ∙ found-named_break finds shows t ok few;
      started = λ none.
          ap (λ (m : Memories). has_started m.known) (j.memories none)
          ∙ has_started-reached (λ t ok few. c.known_over_recordings.ensures.started t ok few) t ok few
          (sym j.found ∙ none);
      after = λ none. j.after none ∙ sym (levels_at-last t.opening t.steps);
      unended = λ p. c.unended-unended.ensures.listed (reached t.opening t.steps).marks p is_marked
          ∙ open_row-recorded finds shows t ok few p;
      counts = λ k is. c.in_ok-counts.ensures.listed (reached t.opening t.steps).marks k is_marked is
          ∙ count_by-recorded finds shows t ok few k;
      kept = keeps.kept;
      times = subst (λ (x : List Step). AreTimes (recorded t.opening x) c.args.running.value.judged.notes.times)
          (append-nil t.steps) (j.times []);
      events = subst (λ (x : List Step). AreEvents (recorded t.opening x) c.args.running.value.judged.notes.events)
          (append-nil t.steps) (j.events []);
      broken = j.broken;
    }
