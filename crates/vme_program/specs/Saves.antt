-- How a file is written at a path, over no input and over nothing that the program didn't write.
use Rattle.std.specs.Prelude.{◌≡◌, ◌⊎◌, ℕ, List, Option, None, Some}
use Rattle.vme_trace.specs.Streams.{Writing}
use Rattle.vme_stream.specs.Texts.{cannot_write_text, line_of, refusal_text}
use Rattle.vme_stream.specs.declared.refusal.Refusal.TheVariants.{Memory}
use Rattle.vme_explain.specs.Saving.{save_refusal, save_refusal_text}
use Rattle.vme_explain.specs.declared.saving.PathEntry.{PathEntry}
use Rattle.vme_explain.specs.declared.saving.SaveRefusal.{SaveRefusal}
use Rattle.vme_stream.specs.Outputs.{TriesToWrite}
use Rattle.vme_program.specs.declared.save.InputIds.{InputIds}
use Rattle.vme_program.specs.declared.environment.WriteResult.{WriteResult}
use Rattle.vme_program.specs.declared.environment.WriteResult.TheVariants as written

-- nothing is written for want of memory, and that is reported
abbrev pub TellsNoMemory : Writing × Writing → ℕ → Type 0
TellsNoMemory err status = TriesToWrite err.0 err.1 (line_of (refusal_text Memory)) × (status ≡ 4)

-- a line says that no file is written at the path, and why; or memory ran out
abbrev pub RefusesPlace : List ℕ → SaveRefusal → Writing × Writing → ℕ → Type 0
RefusesPlace path refusal err status =
    (TriesToWrite err.0 err.1 (save_refusal_text path refusal) × (status ≡ 3)) ⊎ TellsNoMemory err status

-- `refusal` is why no file may be written at the path, by what is there, or `None` if one may
abbrev pub MayBeSaved : (List ℕ → PathEntry → Type 0) → List ℕ → InputIds → Option SaveRefusal → Type 0
MayBeSaved has_entry path inputs refusal =
    (p : PathEntry) × has_entry path p × (refusal ≡ save_refusal p inputs.binding inputs.dump)

-- the status by how the writing of a file ended: `first` if all was written
abbrev pub EndsWriting : WriteResult → ℕ → Writing × Writing → ℕ → Type 0
EndsWriting written.Whole first err status = (err.1 ≡ err.0) × (status ≡ first)
EndsWriting written.Failed first err status =
    TriesToWrite err.0 err.1 (line_of cannot_write_text) × (status ≡ 5)
EndsWriting written.Memory first err status = TellsNoMemory err status

module _ (has_entry : List ℕ → PathEntry → Type 0) (replaces : List ℕ → List ℕ → WriteResult → Type 0) (path : List ℕ)
    (inputs : InputIds) where
  -- `bytes` are put at the path, unless what is there may not be overwritten
  abbrev pub Saves : List ℕ → ℕ → Writing × Writing → ℕ → Type 0
  Saves bytes first err status =
      ((refusal : SaveRefusal) × MayBeSaved has_entry path inputs (Some refusal)
      × RefusesPlace path refusal err status)
      ⊎ (MayBeSaved has_entry path inputs None
      × ((end : WriteResult) × replaces path bytes end × EndsWriting end first err status))
