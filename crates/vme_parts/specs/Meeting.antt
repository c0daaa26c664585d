-- Whether files follow others.
use Rattle.std.specs.Prelude.{◌≡◌, ℕ, ◌≤◌, ◌⊎◌, true, Option, Some}
use Rattle.std.specs.Option.{option_map}
use Rattle.vme_trace.specs.Levels.{Levels}
use Rattle.vme_summary.specs.Joins.{is_later_time}
use Rattle.vme_part_format.specs.declared.segment.SegmentTimes.{SegmentTimes}

-- the time of the first step, if there is one
abbrev pub starts_at : Option SegmentTimes → Option ℕ
starts_at times = option_map (λ (t : SegmentTimes). t.first) times

-- the time of the last step, if there is one
abbrev pub ends_at : Option SegmentTimes → Option ℕ
ends_at times = option_map (λ (t : SegmentTimes). t.last) times

-- files follow others, which leave the levels `left` and have the times `before`: they open with these levels, and
-- their first step, if they have one, is later than the last step before it, if there is one
pub record FilesGoOn (left : Levels) (before : Option SegmentTimes) (opening : Levels)
    (after : Option SegmentTimes) : Type 0
  where
    pub opened : opening ≡ left
    pub later : is_later_time (ends_at before) (starts_at after) ≡ true

-- the first step of `after`, which is in the file `file`, isn't later than the last step of `before`
pub record IsEarlyFile (before after : Option SegmentTimes) (file : ℕ) : Type 0 where
  pub last : SegmentTimes
  pub first : SegmentTimes
  pub there : before ≡ Some last
  pub behind : after ≡ Some first
  pub early : first.first ≤ last.last
  pub numbered : file ≡ first.number

-- the file that doesn't follow those before it: the first one, if it opens with other levels, or else the first that
-- has a step, if that step isn't later than the last step before
abbrev pub IsTornAt : Levels → Option SegmentTimes → ℕ → Levels → Option SegmentTimes → ℕ → Type 0
IsTornAt left before first opening after file =
    ((opening ≡ left → ⊥) × (file ≡ first)) ⊎ ((opening ≡ left) × IsEarlyFile before after file)
