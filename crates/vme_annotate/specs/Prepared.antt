-- A dump with all that is inserted into it, before it is written.
use Rattle.std.specs.Prelude.{◌≡◌, ℕ, List, Option, Some, Result, Ok, Err}
use Rattle.vcd_read.specs.Meaning.{dump_of}
use Rattle.vme_stream.specs.Answers.{AnswerGives, or_bad_dump}
use Rattle.vme_stream.specs.declared.refusal.Refusal.{Refusal}
use Rattle.vme_bind.specs.Binding.{BoundLines}
use Rattle.vme_trace.specs.Trace.{Trace}
use Rattle.vme_annotate.specs.Added.{IsFreeIn}
use Rattle.vme_annotate.specs.HasTimes.{HasTimes}
use Rattle.vme_commands.specs.declared.built_in.TheConstants.{BLOCK}
use Rattle.vme_annotate.specs.Planned.{ArePlanned}
use Rattle.vme_annotate.specs.TimedListings.{IsTimedListingOf, recording_to_list}
use Rattle.vme_annotate.specs.declared.annotating.AnnotatedDump.{AnnotatedDump}

-- the listing, its times and its changes are those of the recording `t`, the dump has the times, and the added scope
-- and codes are free in the dump
pub record IsPrepared (t : Trace) (d : AnnotatedDump) : Type 0 where
  pub timed : IsTimedListingOf t d.listing
  pub has_times : HasTimes d.text.items t
  pub planned : ArePlanned d.listing.listing.rows d.changes.items
  pub added : IsFreeIn d.text.items (Ok d.added)

-- the result is the dump with these bytes, prepared with the given recording, or the same refusal as the recording, or
-- `Memory`
abbrev pub GivesPrepared : Option (List ℕ) → Result AnnotatedDump Refusal → Result Trace Refusal → Type 0
GivesPrepared bytes (Ok d) recording = (t : Trace) × (recording ≡ Ok t) × IsPrepared t d × (bytes ≡ Some d.text.items)
GivesPrepared bytes (Err refusal) recording = AnswerGives (λ (t : Trace). t) (Err refusal) recording

-- the recording that a binding makes of the text of a dump, deskewed by `skew`
abbrev pub recording_in : ℕ → BoundLines → List ℕ → Result Trace Refusal
recording_in skew bound text = recording_to_list skew bound (or_bad_dump (dump_of text)) BLOCK
