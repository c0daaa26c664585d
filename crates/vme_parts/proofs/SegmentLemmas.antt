-- The state after judging the files of a first segment, and of one more segment.
use Rattle.std.proofs.Common.{◌≡◌, ℕ, ◌+◌, ◌<◌, ◌≤◌, ◌^◌, Bool, List, [], ◌++◌, length, length-append, refl, ap, sym}
use Rattle.std.proofs.Common.{subst, ◌∙◌, arith}
use Rattle.std.proofs.Common.{Option, true}
use Rattle.std.specs.Option.{option_or}
use Rattle.vme_trace.specs.Blocks.{joined_steps}
use Rattle.vme_trace.specs.Levels.{Levels}
use Rattle.vme_trace.specs.Trace.{levels_after}
use Rattle.vme_trace.specs.declared.block.Block.{Block}
use Rattle.vme_trace.specs.declared.step.Step.{Step}
use Rattle.vme_summary.specs.Extents.{Meets, joined_extent}
use Rattle.vme_summary.specs.Joins.{is_later_time}
use Rattle.vme_summary.specs.declared.extent.Extent.{Extent}
use Rattle.vme_summary.proofs.Chains.{joined_steps-append}
use Rattle.vme_summary.proofs.Extents.{IsExtent-joined, levels_after-extent}
use Rattle.vme_part_format.specs.Tables.{SegmentValue}
use Rattle.vme_parts.specs.Joined.{joined_times}
use Rattle.vme_parts.specs.Meeting.{FilesGoOn, ends_at, starts_at}
use Rattle.vme_parts.specs.Progress.{HasJudgedFiles, HasStates, HaveTooManySteps, TellsAll}
use Rattle.vme_parts.specs.Stands.{SegmentStandsFor, extent_of}
use Rattle.vme_parts.specs.declared.judged_segments.JudgedSegments.{JudgedSegments}
use Rattle.vme_parts.specs.declared.state.States.{States}
use Rattle.vme_parts.proofs.Standing.{last_time-joined_times, first_time-joined_times}

-- if the monitors have the states `before` after `steps` steps, and the tables of s agree with the steps after these,
-- then the monitors have the states `after` after both
abbrev pub PastTables : States → States → ℕ → SegmentValue → Type 0
PastTables before after steps s =
    (listing : Bool) (o v : Levels) (x y : List Step) → v ≡ levels_after o x → steps ≡ length x
    → length x + length y < 2 ^ 64 → HasStates before o x → TellsAll listing s v y → HasStates after o (x ++ y)

-- the tables of a segment that stands for the files ys agree with the runs over their steps
pub TellsAll-stands_for : (listing : Bool) (s : SegmentValue) (ys : List Block) → SegmentStandsFor listing s ys
    → TellsAll listing s s.opening (joined_steps ys)
TellsAll-stands_for listing s ys p =
    record {
      known = p.known;
      handshake = p.handshake;
      stability = p.stability;
      grant = p.grant;
      acknowledge = p.acknowledge;
    }

-- if j has the levels, the times, the steps and the states after the tables of s, it is the state after judging the
-- files of s
pub HasJudgedFiles-first : (j : JudgedSegments) (begun : States) (s : SegmentValue) → j.left ≡ s.left → j.times
    ≡ s.times
    → j.steps ≡ s.steps → s.steps < 2 ^ 64 → HasStates begun s.opening [] → PastTables begun j.states 0 s
    → (listing : Bool) (bs : List Block) → SegmentStandsFor listing s bs → HasJudgedFiles j (extent_of s) bs
HasJudgedFiles-first j begun s left times steps small none past listing bs p =
    record {
      extent = p.extent;
      left = left;
      starts = ap starts_at times;
      ends = ap ends_at times;
      counted = steps ∙ p.counted;
      found = past listing s.opening s.opening [] (joined_steps bs) refl refl (omega (arith, small, p.counted)) none
          (TellsAll-stands_for listing s bs p);
    }

-- j is the state after judging the files bs, and s is the segment that follows them
module _ (j : JudgedSegments) (s : SegmentValue) (goes_on : FilesGoOn j.left j.times s.opening s.times) (e : Extent)
    (bs : List Block) (was : HasJudgedFiles j e bs) (n : s.first ≡ e.last + 1) where
  -- the extent of s follows that of the files judged so far
  Meets-next_segment : Meets e (extent_of s)
  Meets-next_segment =
      let later : is_later_time e.ends (starts_at s.times) ≡ true
      = subst (λ (t : Option ℕ). is_later_time t (starts_at s.times) ≡ true) was.ends goes_on.later in
      record { numbered = n; opened = goes_on.opened ∙ was.left; later = later }

  -- the files judged so far and those of s, which follow them, have more steps than 64 bits count
  pub HaveTooManySteps-next_segment : (listing : Bool) (ys : List Block) → SegmentStandsFor listing s ys
      → 2 ^ 64 ≤ j.steps + s.steps
      → HaveTooManySteps (bs ++ ys)
  HaveTooManySteps-next_segment listing ys p many = (
    (IsExtent-joined e (extent_of s) bs ys was.extent p.extent Meets-next_segment).join,
    rw (joined_steps-append bs ys, length-append, ← was.counted, ← p.counted) many,
  )

-- r is j with the levels, the times, the steps and the states after the tables of s, which follows what j has judged
module _ (j r : JudgedSegments) (s : SegmentValue) (goes_on : FilesGoOn j.left j.times s.opening s.times) (left : r.left
    ≡ s.left)
    (times : r.times ≡ joined_times j.times s.times) (steps : r.steps ≡ j.steps + s.steps) (small : r.steps < 2 ^ 64)
    (past : PastTables j.states r.states j.steps s) where
  -- if j is the state after judging the files bs, and s stands for the files ys that come next, r is the state after
  -- both
  pub HasJudgedFiles-next_segment : (listing : Bool) (e : Extent) (bs ys : List Block) → HasJudgedFiles j e bs
      → SegmentStandsFor listing s ys
      → s.first ≡ e.last + 1 → HasJudgedFiles r (joined_extent e (extent_of s)) (bs ++ ys)
  HasJudgedFiles-next_segment listing e bs ys was p n =
      let meets = Meets-next_segment j s goes_on e bs was n in
      let opens : s.opening ≡ levels_after e.opening (joined_steps bs)
      = goes_on.opened ∙ (was.left ∙ sym (levels_after-extent e bs was.extent)) in
      let fits : length (joined_steps bs) + length (joined_steps ys) < 2 ^ 64
      = omega (arith, small, steps, was.counted, p.counted) in
      record {
        extent = IsExtent-joined e (extent_of s) bs ys was.extent p.extent meets;
        left = left;
        starts =
            ap starts_at times
            ∙ (first_time-joined_times j.times s.times
            ∙ ap (λ (t : Option ℕ). option_or t (starts_at s.times)) was.starts);
        ends = ap ends_at times ∙ (last_time-joined_times j.times s.times ∙ ap (option_or (ends_at s.times)) was.ends);
        counted = rw (joined_steps-append bs ys, length-append, ← was.counted, ← p.counted) steps;
        found = rw (joined_steps-append bs ys)
            (past listing e.opening s.opening (joined_steps bs) (joined_steps ys) opens was.counted fits was.found
            (TellsAll-stands_for listing s ys p));
      }
