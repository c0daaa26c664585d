-- What an account has of a recording.
use Rattle.std.specs.Prelude.{◌≡◌, ◌+◌, ◌≤◌, ℕ, Bool, true, List, length, min, IfSome, None, Option, count_by, is_some}
use Rattle.std.specs.Prelude.{unwrap_or}
use Rattle.std.specs.Global.{Box}
use Rattle.vme_audit.specs.Parts.{named_break}
use Rattle.vme_listing.specs.Recorded.{recorded_rows}
use Rattle.vme_monitor.specs.OverStretches.{has_started}
use Rattle.vme_trace.specs.Judged.{has_any_stretch}
use Rattle.vme_trace.specs.Judged.{judged_stretches}
use Rattle.vme_trace.specs.Levels.{Levels}
use Rattle.vme_trace.specs.Trace.{Trace, levels_at}
use Rattle.vme_trace.specs.Verdict.{verdict}
use Rattle.vme_trace.specs.WellFormed.{capture_limit}
use Rattle.vme_trace.specs.declared.step.Step.{Step}
use Rattle.vme_trace.specs.declared.verdict.Break.{Break}
use Rattle.vme_account.specs.FollowedSteps.{FollowsSteps}
use Rattle.vme_account.specs.StoredSteps.{AreStored}
use Rattle.vme_account.specs.KnownTimes.{AreTimes}
use Rattle.vme_account.specs.LineNotes.{is_flagged}
use Rattle.vme_account.specs.UnendedRows.{open_in, open_row}
use Rattle.vme_account.specs.RowCounts.{count_in, is_counted}
use Rattle.vme_account.specs.RowKinds.{is_of}
use Rattle.vme_account.specs.StretchEvents.{AreEvents}
use Rattle.vme_account.specs.declared.account.Account.{Account}
use Rattle.vme_account.specs.declared.row_kind.Part.{Part}
use Rattle.vme_account.specs.declared.row_kind.RowKind.{RowKind}
use Rattle.vme_account.specs.declared.running_account.RunningAccount.{RunningAccount}
use Rattle.vme_account.specs.declared.stretches.StartedTenure.{StartedTenure}

-- ---- the steps so far

-- the account follows the steps `x`, and keeps the last of them
pub record KeepsAccount (o : Levels) (x : List Step) (a : RunningAccount) : Type 0 where
  pub judged : FollowsSteps o x a.judged
  pub kept : AreStored o x a.kept

-- `count` is the number of steps, limited to one more than a recording may have; while `count` is at most 67,108,864,
-- `a`, if it is there, is the account of these steps
pub record IsRunning (o : Levels) (x : List Step) (a : Option (Box RunningAccount)) (count : ℕ) : Type 0 where
  pub counted : count ≡ min (length x) (capture_limit + 1)
  pub kept : count ≤ 67108864 → IfSome a (λ b. KeepsAccount o x b.value)

-- ---- where the recording ends

-- the break that is found
abbrev pub found_break : Account → Option Break
found_break a = a.running.value.judged.notes.found

-- the instant from which on the last stretch is judged
abbrev pub judged_from : Account → ℕ
judged_from a = a.running.value.judged.notes.events.start

-- the first instant whose levels are kept
abbrev pub first_kept : Account → ℕ
first_kept a = a.running.value.kept.recent.first

-- the last instant whose levels are kept
abbrev pub last_kept : Account → ℕ
last_kept a = a.running.value.kept.end

-- the instant at which judging starts first
abbrev pub first_start : Account → Option ℕ
first_start a = a.running.value.judged.notes.stretches.first_start

-- the instant of the last reset that ended judging
abbrev pub last_reset : Account → Option ℕ
last_reset a = a.running.value.judged.notes.stretches.last_reset

-- the last judged instant: that of the last reset, if judging doesn't start again after it, or else the last kept one
abbrev pub last_judged : Account → ℕ
last_judged a = unwrap_or a.running.value.judged.notes.stretches.ended (last_kept a)

-- the last tenure that a grant began
abbrev pub last_tenure : Account → Option StartedTenure
last_tenure a = a.running.value.judged.notes.stretches.tenure

-- the line moved since judging started first
abbrev pub has_moved : Account → ℕ → Bool
has_moved a l = is_flagged a.running.value.judged.lines.moved l

-- the line was as an idle bus has it at some instant, before judging started
abbrev pub was_idle_level : Account → ℕ → Bool
was_idle_level a l = is_flagged a.running.value.judged.lines.idle_levels l

-- the levels at the end, or at the break
abbrev pub last_levels : Account → Levels
last_levels a = a.running.value.judged.view.after

-- The opening levels are those of `t`. The break is that of the verdict, and without one the monitors have started
-- exactly if something is judged, and the last levels are those after all steps. The open rows, and the numbers of rows
-- of each kind, are those of the listing. The kept steps, the times and the events are those of the recording.
pub record IsAccountOf (a : Account) (t : Trace) : Type 0 where
  pub opening : a.opening ≡ t.opening
  pub found : found_break a ≡ named_break (verdict t)
  pub started : found_break a ≡ None → has_started a.running.value.judged.memories.known
      ≡ has_any_stretch (judged_stretches t)
  pub after : found_break a ≡ None → last_levels a ≡ levels_at t (length t.steps)
  pub unended : (p : Part) → open_in a.unended p ≡ open_row p (recorded_rows t)
  pub counts : (k : RowKind) → is_counted k ≡ true → count_in a.counts k ≡ count_by (is_of k) (recorded_rows t)
  pub kept : AreStored t.opening t.steps a.running.value.kept
  pub times : AreTimes t a.running.value.judged.notes.times
  pub events : AreEvents t a.running.value.judged.notes.events
  pub broken : IfSome (found_break a) (λ b. (b.instant ≡ a.running.value.judged.notes.events.seen)
      × (is_some a.running.value.judged.notes.events.before ≡ true))
