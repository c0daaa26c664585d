-- Which files are opened for an order, and what is done with them.
use Rattle.std.specs.Prelude.{◌⊎◌, ℕ, List, Option, None, Some, string_bytes}
use Rattle.vme_trace.specs.Streams.{Reading, Writing}
use Rattle.vme_stream.specs.Answers.{refusal_answer}
use Rattle.vme_stream.specs.Ends.{WritesAnswer}
use Rattle.vme_stream.specs.declared.refusal.Input.{Input}
use Rattle.vme_stream.specs.declared.refusal.Input.TheVariants.{Binding, Dump, Listing}
use Rattle.vme_stream.specs.declared.refusal.Refusal.TheVariants.{CannotOpen}
use Rattle.vme_words.specs.declared.order.RecordingFiles.{RecordingFiles}

-- what a command does with an input that was opened: a relation of its states before and after, of those of standard
-- output and of standard error, and of the exit status
abbrev pub CommandRelation : Type 1
CommandRelation = Reading × Reading → Writing × Writing → Writing × Writing → ℕ → Type 0

-- opening the file of a name gives the state of what is read there, or nothing where that failed
module _ (opens : List ℕ → Option Reading → Type 0) where
  -- the file with this name is opened for an input, and `Command` is done with it; or it can't be opened, that is
  -- written, and nothing else is done
  abbrev pub WithInput : List ℕ → Input → CommandRelation → Writing × Writing → Writing × Writing → ℕ → Type 0
  WithInput name input Command out err status =
      (opens name None × WritesAnswer (refusal_answer (CannotOpen input)) out err status)
      ⊎ ((states : Reading × Reading) × opens name (Some states.0) × Command states out err status)

  -- `input` is the first file of a recording that can't be opened: the binding is tried before the dump, and there is
  -- no listing
  abbrev pub IsFirstUnopenedInput : RecordingFiles → Input → Type 0
  IsFirstUnopenedInput files Binding = opens (string_bytes files.binding) None
  IsFirstUnopenedInput files Dump =
      ((binding : Reading) × opens (string_bytes files.binding) (Some binding)) × opens (string_bytes files.dump) None
  IsFirstUnopenedInput files Listing = ⊥

  -- the files of a recording are opened, and `Command` is done with the binding and the dump; or it is written which is
  -- the first that can't be opened, and nothing else is done
  abbrev pub WithRecording : RecordingFiles → (Reading × Reading → CommandRelation) → Writing × Writing
      → Writing × Writing → ℕ → Type 0
  WithRecording files Command out err status =
      ((input : Input) × IsFirstUnopenedInput files input × WritesAnswer (refusal_answer (CannotOpen input)) out err
      status)
      ⊎ ((binding dump : Reading × Reading)
      × opens (string_bytes files.binding) (Some binding.0) × opens (string_bytes files.dump) (Some dump.0)
      × Command binding dump out err status)
