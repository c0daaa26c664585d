-- The listing that a command writes, and its exit status.
use Rattle.std.specs.Prelude.{◌≡◌, ◌≢◌, ℕ, [], List, Option, Some, Result, Ok, Err}
use Rattle.vcd_read.specs.Header.{◌>>=◌}
use Rattle.vme_trace.specs.Streams.{Reading, Writing}
use Rattle.vme_trace.specs.Trace.{Trace}
use Rattle.vme_trace.specs.Verdict.{verdict, verdict_by, rules_in_force}
use Rattle.vme_listing.specs.Listed.{Listed, in_newest_version}
use Rattle.vme_listing.specs.Recorded.{listing_of}
use Rattle.vme_listing.specs.RowText.{text_of}
use Rattle.vme_stream.specs.Answers.{CommandAnswer, AnswerGives, capture_read, refusal_answer}
use Rattle.vme_stream.specs.Ends.{AnswersInputs}
use Rattle.vme_stream.specs.Inputs.{IsReadWhole}
use Rattle.vme_stream.specs.Outputs.{Writes}
use Rattle.vme_split.specs.Split.{Splits}
use Rattle.vme_stream.specs.Texts.{verdict_status}
use Rattle.vme_stream.specs.declared.refusal.Refusal.{Refusal}
use Rattle.vme_commands.specs.Judged.{in_blocks}
use Rattle.vme_commands.specs.Settled.{settled_recording}
use Rattle.vme_listing.specs.declared.row.Row.{Row}

-- the recording that a binding makes of a dump, if it needs at most 4,096 blocks of `block` steps, or the first reason
-- that there is none
unfoldable pub recording_in_blocks : Option (List ℕ) → Option (List ℕ) → ℕ → Result Trace Refusal
recording_in_blocks binding dump block = do
  t ← capture_read binding dump
  in_blocks block t

-- the result is the listing of the given recording, or the same refusal as it, or `Memory`
abbrev pub GivesListing : Result Listed Refusal → Result Trace Refusal → Type 0
GivesListing (Ok listing) recording = (t : Trace) × (recording ≡ Ok t) × (listing ≡ listing_of t)
GivesListing (Err refusal) recording = AnswerGives (λ (t : Trace). t) (Err refusal) recording

-- ---- the answer

-- a listing is written with the status of the verdict
abbrev pub listing_answer_by : Result Trace Refusal → CommandAnswer
listing_answer_by (Ok t) =
    record { out = text_of (listing_of t); error = []; status = verdict_status (verdict_by rules_in_force t) }
listing_answer_by (Err refusal) = refusal_answer refusal

-- the answer to a binding and a dump, to be deskewed by `skew` and listed; each is given by its bytes, or none if it
-- can't be read
abbrev pub listing_answer_of : ℕ → Option (List ℕ) → Option (List ℕ) → ℕ → CommandAnswer
listing_answer_of skew binding dump block = listing_answer_by (settled_recording skew binding dump block)

-- the recording that the inputs give, deskewed, is listed; or the answer is that of their refusal or of `Memory`
abbrev pub WritesListing : ℕ → Reading × Reading → Reading × Reading → ℕ → Writing × Writing → Writing × Writing → ℕ
    → Type 0
WritesListing skew binding dump block out err status =
    AnswersInputs listing_answer_by (λ b d recording. AnswerGives (λ t. t) recording (settled_recording skew b d block))
    binding dump out err status

-- what was written is the text of rows that split the judged edges of the recording: each edge belongs to one row
abbrev pub WritesSplit : Trace → Writing × Writing → Type 0
WritesSplit t out =
    (rows : List Row) × Splits t (verdict t) rows × Writes out.0 out.1 (text_of (in_newest_version rows))

-- if both inputs are read whole, no write to `out` fails and memory suffices, the rows that are written split the
-- judged edges of the deskewed recording
abbrev pub WritesSplitExactly : ℕ → Reading × Reading → Reading × Reading → ℕ → Writing × Writing → ℕ → Type 0
WritesSplitExactly skew binding dump block out status =
    (b d : List ℕ) (t : Trace) → IsReadWhole binding.0 binding.1 b → IsReadWhole dump.0 dump.1 d
    → out.1.failures ≡ out.0.failures → status ≢ 4 → settled_recording skew (Some b) (Some d) block ≡ Ok t
    → WritesSplit t out
