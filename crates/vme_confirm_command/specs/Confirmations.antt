-- The answer of the program to a listing that is to be confirmed.
use Rattle.std.specs.Prelude.{◌≡◌, ◌≢◌, ℕ, true, ◌++◌, [], List, Option, None, Some, Result, Ok, Err, codes, decimal}
use Rattle.std.specs.Prelude.{length, nat_le, if◌then◌else◌}
use Rattle.vcd_read.specs.Contents.{Contents}
use Rattle.vcd_read.specs.Header.{◌>>=◌}
use Rattle.vme_bind.specs.Binding.{BoundLines}
use Rattle.vme_bind.specs.Capture.{capture_of}
use Rattle.vme_trace.specs.Streams.{Reading, Writing}
use Rattle.vme_trace.specs.Trace.{Trace}
use Rattle.vme_listing.specs.Listed.{Listed}
use Rattle.vme_listing.specs.Places.{is_well_placed}
use Rattle.vme_listing.specs.Reading.{IsFirstFault, IsNoListing}
use Rattle.vme_listing.specs.Recorded.{recorded_rows, rows_in}
use Rattle.vme_listing.specs.RowText.{text_of}
use Rattle.vme_listing.specs.declared.fault.ListFault.{ListFault}
use Rattle.vme_skew.specs.Settled.{settled_or}
use Rattle.vme_cert.specs.Agreement.{DecidesListing}
use Rattle.vme_cert.specs.declared.compare.Answer.{Answer as Confirmation}
use Rattle.vme_cert.specs.declared.compare.Answer.TheVariants.{Yes, No}
use Rattle.vme_stream.specs.Answers.{CommandAnswer, binding_read, dump_read, or_bad_binding, refusal_answer}
use Rattle.vme_stream.specs.Ends.{Ends, WritesAnswer}
use Rattle.vme_stream.specs.Inputs.{IsReading, IsReadWhole}
use Rattle.vme_stream.specs.Refusals.{listing_refusal}
use Rattle.vme_stream.specs.Texts.{line_of}
use Rattle.vme_stream.specs.declared.refusal.Input.TheVariants.{Listing}
use Rattle.vme_stream.specs.declared.refusal.Refusal.{Refusal}
use Rattle.vme_stream.specs.declared.refusal.Refusal.TheVariants.{CannotRead, Memory, TooLong}

-- how many bytes a listing has at most: more than that of any recording
abbrev pub longest_listing : ℕ
longest_listing = 137438953472

-- the bytes of a listing, where they can be read and aren't too many
abbrev pub listing_text : Option (List ℕ) → Result (List ℕ) Refusal
listing_text None = Err (CannotRead Listing)
listing_text (Some bytes) = if nat_le (length bytes) longest_listing then Ok bytes else Err (TooLong Listing)

-- `given` is the listing with this text, or its first fault; or, if there is no text, the same refusal
abbrev pub IsListing : Result (List ℕ) Refusal → Result Listed Refusal → Type 0
IsListing (Err refusal) given = given ≡ Err refusal
IsListing (Ok text) (Ok listing) = (is_well_placed listing ≡ true) × (text_of listing ≡ text)
IsListing (Ok text) (Err refusal) =
    (fault : ListFault) × (refusal ≡ listing_refusal fault) × IsFirstFault text fault × IsNoListing text fault

-- `given` is so, unless memory ran out
abbrev pub GivesRows : Result (List ℕ) Refusal → Result Listed Refusal → Type 0
GivesRows text (Err Memory) = Unit {0}
GivesRows text given = IsListing text given

-- A listing, and the recording that a binding makes of a dump; or the first reason that one is missing. A fault of the
-- listing comes before the reason that the binding makes no recording. The program may read in another order.
abbrev pub compared : Result BoundLines Refusal → Result Contents Refusal → Result Listed Refusal
    → Result (Listed × Trace) Refusal
compared binding dump listing = do
  bound ← binding
  contents ← dump
  given ← listing
  t ← or_bad_binding (capture_of bound contents)
  Ok (given, t)

-- a listing, and the recording deskewed by `skew`; or the first reason that one is missing, as in `compared`
abbrev pub compared_settled : ℕ → Result BoundLines Refusal → Result Contents Refusal → Result Listed Refusal
    → Result (Listed × Trace) Refusal
compared_settled skew binding dump listing = do
  bound ← binding
  contents ← dump
  given ← listing
  t ← or_bad_binding (settled_or skew (capture_of bound contents))
  Ok (given, t)

-- `found` says whether the listing is that of the recording in its version, and which row is the first that differs; or
-- it is why there is no answer
abbrev pub IsFound : Result Confirmation Refusal → Result (Listed × Trace) Refusal → Type 0
IsFound (Ok found) said = (given : Listed) × (t : Trace) × (said ≡ Ok (given, t))
    × DecidesListing given.rows (rows_in given.version (recorded_rows t)) found
IsFound (Err refusal) said = said ≡ Err refusal

-- `found` is so, unless memory ran out
abbrev pub GivesConfirmation : Result Confirmation Refusal → Result (Listed × Trace) Refusal → Type 0
GivesConfirmation (Err Memory) said = Unit {0}
GivesConfirmation found said = IsFound found said

-- `found` is the answer, with the skew `skew`, to a binding, a dump and the text of a listing, or the first reason that
-- there is none. If there are a binding and a dump, the text is read as a listing, or has a first fault.
abbrev pub IsConfirmation : ℕ → Result BoundLines Refusal → Result Contents Refusal → Result (List ℕ) Refusal
    → Result Confirmation Refusal → Type 0
IsConfirmation skew (Err refusal) dump text found = found ≡ Err refusal
IsConfirmation skew (Ok bound) (Err refusal) text found = found ≡ Err refusal
IsConfirmation skew (Ok bound) (Ok contents) text found =
    (given : Result Listed Refusal) × (given ≢ Err Memory)
    × IsListing text given
    × IsFound found (compared_settled skew (Ok bound) (Ok contents) given)

-- ---- the answer

-- the text of a comparison's result
abbrev pub confirmation_text : Confirmation → List ℕ
confirmation_text Yes = codes "confirmed"
confirmation_text (No row) = codes "not confirmed at row " ++ decimal row

-- the exit status of a comparison's result
abbrev pub confirmation_status : Confirmation → ℕ
confirmation_status Yes = 0
confirmation_status (No row) = 1

-- the answer by the result of a comparison, or to a refusal
abbrev pub confirmation_answer_by : Result Confirmation Refusal → CommandAnswer
confirmation_answer_by (Ok found) =
    record { out = line_of (confirmation_text found); error = []; status = confirmation_status found }
confirmation_answer_by (Err refusal) = refusal_answer refusal

-- ---- how it ends

-- The binding, the dump and the listing are read, or can't be. The listing is compared with that of the recording
-- deskewed by `skew`, unless memory runs out. The answer is written, unless a write of it fails.
abbrev pub Confirms : ℕ → Reading × Reading → Reading × Reading → Reading × Reading
    → Writing × Writing → Writing × Writing → ℕ → Type 0
Confirms skew binding dump listing out err status =
    (binding_bytes dump_bytes listing_bytes : Option (List ℕ)) × (given : Result Listed Refusal)
    × (found : Result Confirmation Refusal)
    × IsReading binding.0 binding.1 binding_bytes
    × IsReading dump.0 dump.1 dump_bytes
    × IsReading listing.0 listing.1 listing_bytes
    × GivesRows (listing_text listing_bytes) given
    × GivesConfirmation found (compared_settled skew (binding_read binding_bytes) (dump_read dump_bytes) given)
    × Ends (confirmation_answer_by found) out err status

-- the answer, with the skew `skew`, to a binding, a dump and a listing with these bytes is written
abbrev pub TellsConfirmation : ℕ → List ℕ → List ℕ → List ℕ → Writing × Writing → Writing × Writing → ℕ → Type 0
TellsConfirmation skew binding dump listing out err status =
    (found : Result Confirmation Refusal)
    × IsConfirmation skew (binding_read (Some binding)) (dump_read (Some dump)) (listing_text (Some listing)) found
    × WritesAnswer (confirmation_answer_by found) out err status

-- if the inputs are read whole, no write to `out` fails and memory suffices, exactly their answer is written
abbrev pub ConfirmsExactly : ℕ → Reading × Reading → Reading × Reading → Reading × Reading
    → Writing × Writing → Writing × Writing → ℕ → Type 0
ConfirmsExactly skew binding dump listing out err status =
    (b d l : List ℕ) → IsReadWhole binding.0 binding.1 b → IsReadWhole dump.0 dump.1 d
    → IsReadWhole listing.0 listing.1 l → out.1.failures ≡ out.0.failures → status ≢ 4
    → TellsConfirmation skew b d l out err status
