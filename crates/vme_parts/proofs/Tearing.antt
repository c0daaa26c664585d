-- Whether files follow those before them, from the answers of the tests of their levels and times.
use Rattle.std.proofs.Common.{inl, inr, ◌≡◌, ℕ, true, Option, Some, None, refl}
use Rattle.std.specs.Prelude.{IfSome}
use Rattle.vme_trace.specs.Levels.{Levels}
use Rattle.vme_summary.specs.Joins.{is_later_time}
use Rattle.vme_part_format.specs.declared.segment.SegmentTimes.{SegmentTimes}
use Rattle.vme_parts.specs.Meeting.{FilesGoOn, IsEarlyFile, IsTornAt, ends_at, starts_at}

-- files that open with the levels `left` follow those before them, if the search for an early file finds none
pub FilesGoOn-by_test : (left opening : Levels) (before after : Option SegmentTimes) (r : Option ℕ) → opening ≡ left
    → (r ≡ None → is_later_time (ends_at before) (starts_at after) ≡ true) → r ≡ None → FilesGoOn left before opening
    after
FilesGoOn-by_test left opening before after r same later e = record { opened = same; later = later e }

-- if files open with the levels `left`, a file with an early step that the search finds is torn
pub IsTornAt-early_file : (left opening : Levels) (before after : Option SegmentTimes) (first : ℕ) (r : Option ℕ)
    → opening ≡ left → IfSome r (IsEarlyFile before after) → IfSome r
    (λ file. IsTornAt left before first opening after file)
IsTornAt-early_file left opening before after first None same early = tt
IsTornAt-early_file left opening before after first (Some n) same early = inr (same, early)

-- if files open with other levels than `left`, the first of them is torn
pub IsTornAt-other_levels : (left opening : Levels) (before after : Option SegmentTimes) (first : ℕ)
    → (opening ≡ left → ⊥)
    → IsTornAt left before first opening after first
IsTornAt-other_levels left opening before after first other = inl (other, refl)
