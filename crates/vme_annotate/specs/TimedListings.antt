-- The listing of a recording with the times of its steps, and its text with times.
use Rattle.std.specs.Prelude.{◌≡◌, ℕ, List, [], ◌∷◌, ◌++◌, flat_map, map, codes, Result, Ok, Err}
use Rattle.vme_trace.specs.Trace.{Trace}
use Rattle.vme_trace.specs.declared.step.Step.{Step}
use Rattle.vme_listing.specs.Listed.{Listed}
use Rattle.vme_listing.specs.Recorded.{listing_of, recorded_rows}
use Rattle.vme_listing.specs.declared.row.Row.{Row}
use Rattle.vcd_read.specs.Contents.{Contents}
use Rattle.vcd_read.specs.Header.{◌>>=◌}
use Rattle.vme_bind.specs.Binding.{BoundLines}
use Rattle.vme_skew.specs.Settled.{settled_or}
use Rattle.vme_stream.specs.Answers.{AnswerGives, capture_by}
use Rattle.vme_stream.specs.declared.refusal.Refusal.{Refusal}
use Rattle.vme_commands.specs.Judged.{in_blocks}
use Rattle.vme_annotate.specs.TimedRows.{timed_line}

-- ---- the listing of a recording, with times

-- the times of the steps, in their order
abbrev pub times_of : List Step → List ℕ
times_of steps = map (λ (step : Step). step.time) steps

-- a listing with the times of the recording's steps
pub record TimedListingValue : Type 0 where
  pub listing : Listed
  pub times : List ℕ

-- `found` is the listing of the recording `t`, with the times of its steps
pub record IsTimedListingOf (t : Trace) (found : TimedListingValue) : Type 0 where
  pub listing_is : found.listing ≡ listing_of t
  pub times_are : found.times ≡ times_of t.steps

-- the result is the listing and times of the given recording, or the same refusal as it, or `Memory`
abbrev pub GivesTimedListing : Result TimedListingValue Refusal → Result Trace Refusal → Type 0
GivesTimedListing (Ok found) recording = (t : Trace) × (recording ≡ Ok t) × IsTimedListingOf t found
GivesTimedListing (Err refusal) recording = AnswerGives (λ (t : Trace). t) (Err refusal) recording

-- ---- the text

-- the first line: a listing, version 3, with times
abbrev pub timed_header : List ℕ
timed_header = codes "vmecheck listing 3 times" ++ 10 ∷ []

-- the text of a listing with these rows
abbrev pub timed_rows_text : List ℕ → List Row → List ℕ
timed_rows_text times rows = timed_header ++ flat_map (timed_line times) rows

-- the text of the listing of a recording
abbrev pub timed_text : Trace → List ℕ
timed_text t = timed_rows_text (times_of t.steps) (recorded_rows t)

-- ---- the recording that is listed

-- a recording deskewed by `skew`, if it needs at most 4,096 blocks of `block` steps
abbrev pub settled_in_blocks : ℕ → ℕ → Result Trace Refusal → Result Trace Refusal
settled_in_blocks skew block recording = settled_or skew recording >>= in_blocks block

-- the recording that the binding `bound` makes of what reading the dump gave, deskewed by `skew`, if it needs at most
-- 4,096 blocks of `block` steps
abbrev pub recording_to_list : ℕ → BoundLines → Result Contents Refusal → ℕ → Result Trace Refusal
recording_to_list skew bound dump block = settled_in_blocks skew block (capture_by bound dump)
