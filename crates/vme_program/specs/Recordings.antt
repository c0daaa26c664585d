-- What the commands do with the recording that an order names.
use Rattle.std.specs.Prelude.{ℕ, Bool, true, false, List, Option, string_bytes}
use Rattle.vme_trace.specs.Streams.{Reading, Writing}
use Rattle.vme_stream.specs.declared.refusal.Input.TheVariants.{Listing}
use Rattle.vme_confirm_command.specs.Confirmations.{Confirms}
use Rattle.vme_commands.specs.Listings.{WritesListing}
use Rattle.vme_commands.specs.Settled.{ChecksSettled}
use Rattle.vme_annotate.specs.Answers.{Annotates, WritesTimes}
use Rattle.vme_words.specs.declared.order.AnnotateOrder.{AnnotateOrder}
use Rattle.vme_words.specs.declared.order.CheckOrder.{CheckOrder}
use Rattle.vme_words.specs.declared.order.ConfirmOrder.{ConfirmOrder}
use Rattle.vme_words.specs.declared.order.ListOrder.{ListOrder}
use Rattle.vme_program.specs.Openings.{WithInput, WithRecording}

-- a listing is written, with the times of its instants or without
abbrev pub WritesRows : Bool → ℕ → Reading × Reading → Reading × Reading → ℕ → Writing × Writing → Writing × Writing
    → ℕ → Type 0
WritesRows true skew binding dump block = WritesTimes skew binding dump block
WritesRows false skew binding dump block = WritesListing skew binding dump block

module _ (opens : List ℕ → Option Reading → Type 0) where
  -- the binding and the dump are opened, and judged
  abbrev pub ChecksFiles : CheckOrder → Writing × Writing → Writing × Writing → ℕ → Type 0
  ChecksFiles order = WithRecording opens order.recording
      (λ binding dump. ChecksSettled order.options.skew binding dump order.options.block)

  -- the binding and the dump are opened, and listed
  abbrev pub ListsFiles : ListOrder → Writing × Writing → Writing × Writing → ℕ → Type 0
  ListsFiles order = WithRecording opens order.recording
      (λ binding dump. WritesRows order.has_times order.options.skew binding dump order.options.block)

  -- the binding and the dump are opened, and the dump is annotated
  abbrev pub AnnotatesFiles : AnnotateOrder → Writing × Writing → Writing × Writing → ℕ → Type 0
  AnnotatesFiles order = WithRecording opens order.recording (λ binding dump. Annotates order.skew binding dump)

  -- after the binding and the dump the listing is opened
  abbrev pub ConfirmsListing : ConfirmOrder → Reading × Reading → Reading × Reading
      → Writing × Writing → Writing × Writing → ℕ → Type 0
  ConfirmsListing order binding dump = WithInput opens (string_bytes order.listing) Listing
      (λ listing. Confirms order.skew binding dump listing)

  -- the binding, the dump and the listing are opened, and the listing is compared
  abbrev pub ConfirmsFiles : ConfirmOrder → Writing × Writing → Writing × Writing → ℕ → Type 0
  ConfirmsFiles order = WithRecording opens order.recording (ConfirmsListing order)
