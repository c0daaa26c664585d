-- What the commands on parts do with the files that an order names.
use Rattle.std.specs.Prelude.{◌≡◌, ◌⊎◌, ℕ, Bool, true, false, List, codes, map, take, Option, None, Some, slice_get}
use Rattle.std.specs.Prelude.{string_bytes}
use Rattle.std.specs.List.{AllZip}
use Rattle.vme_trace.specs.Streams.{Reading, Writing}
use Rattle.vme_part_command.specs.PartAnswers.{ListsRecording, TellsRecording, WritesJoin}
use Rattle.vme_part_command.specs.Written.{WritesPart}
use Rattle.vme_part_command.specs.declared.part.PartOptions.{PartOptions}
use Rattle.vme_words.specs.declared.order.JoinOrder.{JoinOrder}
use Rattle.vme_words.specs.declared.order.PartOrder.{PartOrder}
use Rattle.vme_words.specs.declared.order.TellOrder.{TellOrder}
use Rattle.vme_program.specs.Audits.{EndsForMemory, RefusesFile}
use Rattle.vme_program.specs.Openings.{WithRecording}

-- which file the dump is, and whether its part has the marks of a listing
abbrev pub options_of : PartOrder → PartOptions
options_of order = record { number = order.number; listing = order.listing }

-- the listing of the recording whose parts are these inputs is written, or the verdict on it
abbrev pub TellsParts : Bool → Option ℕ → List (List ℕ) → List Reading × List Reading
    → Writing × Writing → Writing × Writing → ℕ → Type 0
TellsParts true files names parts = ListsRecording names parts files
TellsParts false files names parts = TellsRecording names parts files

-- what a command does with parts that were opened: as `CommandRelation`, but of the states of all parts
abbrev pub PartsCommandRelation : Type 1
PartsCommandRelation = List Reading × List Reading → Writing × Writing → Writing × Writing → ℕ → Type 0

module _ (opens : List ℕ → Option Reading → Type 0) where
  -- the files of these names were opened, in this order
  abbrev pub AreOpened : List (List ℕ) → List Reading → Type 0
  AreOpened names parts = AllZip (λ name part. opens name (Some part)) names parts

  -- the first of these names that can't be opened
  abbrev pub IsFirstUnopenedPart : List (List ℕ) → List ℕ → Type 0
  IsFirstUnopenedPart names name =
      (n : ℕ) × (before : List Reading)
      × (slice_get names n ≡ Some name) × AreOpened (take n names) before × opens name None

  -- each part is opened, and `Command` is done with them; the first that can't be opened is reported, and nothing is
  -- read
  abbrev pub WithParts : List (List ℕ) → PartsCommandRelation → Writing × Writing → Writing × Writing → ℕ → Type 0
  WithParts names Command out err status =
      EndsForMemory out err status
      ⊎ (((name : List ℕ) × IsFirstUnopenedPart names name
      × (out.1 ≡ out.0) × RefusesFile name (codes "cannot open") 3 err status)
      ⊎ ((parts : List Reading × List Reading) × AreOpened names parts.0 × Command parts out err status))

  -- the part of a file: the binding is opened, and then the dump
  abbrev pub WritesPartOfFiles : PartOrder → Writing × Writing → Writing × Writing → ℕ → Type 0
  WritesPartOfFiles order = WithRecording opens order.recording (WritesPart (options_of order))

  -- one part of several is written
  abbrev pub JoinsFiles : JoinOrder → Writing × Writing → Writing × Writing → ℕ → Type 0
  JoinsFiles order =
      let words = map string_bytes order.parts.items in
      WithParts words (WritesJoin words)

  -- the listing of the recording with these parts is written, or the verdict on it
  abbrev pub TellsOfFiles : TellOrder → Writing × Writing → Writing × Writing → ℕ → Type 0
  TellsOfFiles order =
      let words = map string_bytes order.parts.items in
      WithParts words (TellsParts order.listing order.file_count words)
