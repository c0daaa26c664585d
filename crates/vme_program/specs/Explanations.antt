-- What is done with the files that an order names for an explanation, and with the files that it wants written.
use Rattle.std.specs.Prelude.{◌≡◌, ◌⊎◌, ◌||◌, ℕ, Bool, true, false, List, [], Option, None, Some, MatchOption, is_some}
use Rattle.std.specs.Prelude.{bytes_eq, option_map, string_bytes}
use Rattle.vme_trace.specs.Streams.{Reading, Writing}
use Rattle.vme_stream.specs.Answers.{refusal_answer}
use Rattle.vme_stream.specs.Ends.{WritesAnswer}
use Rattle.vme_stream.specs.declared.refusal.Input.{Input}
use Rattle.vme_stream.specs.declared.refusal.Input.TheVariants.{Binding, Dump}
use Rattle.vme_stream.specs.declared.refusal.Refusal.TheVariants.{CannotOpen}
use Rattle.vme_text_commands.specs.Explained.{Explains, ExplainsWith}
use Rattle.vme_text_commands.specs.declared.explain.ExplainedFiles.{ExplainedFiles}
use Rattle.vme_explain.specs.Saving.{is_one_file}
use Rattle.vme_explain.specs.declared.saving.FileId.{FileId}
use Rattle.vme_explain.specs.declared.saving.PathEntry.{PathEntry}
use Rattle.vme_explain.specs.declared.saving.SaveRefusal.{SaveRefusal}
use Rattle.vme_explain.specs.declared.saving.SaveRefusal.TheVariants.{Shared}
use Rattle.vme_picture.specs.Pictures.{IsPicture}
use Rattle.vme_stream.specs.Outputs.{Writes}
use Rattle.vme_words.specs.declared.order.ExplainOrder.{ExplainOrder}
use Rattle.vme_program.specs.Openings.{WithRecording}
use Rattle.vme_program.specs.Saves.{MayBeSaved, RefusesPlace, Saves}
use Rattle.vme_program.specs.declared.save.InputIds.{InputIds}
use Rattle.vme_program.specs.declared.environment.Environment.{Ghosts as Environment}

-- the path at which the viewer's file is wanted, if it is
abbrev pub viewer_word : ExplainOrder → Option (List ℕ)
viewer_word order = option_map string_bytes order.viewer

-- the path at which the picture is wanted, if it is
abbrev pub picture_word : ExplainOrder → Option (List ℕ)
picture_word order = option_map string_bytes order.picture

-- neither file is wanted
abbrev pub AsksNoFile : ExplainOrder → Type 0
AsksNoFile order = (viewer_word order ≡ None) × (picture_word order ≡ None)

-- at least one of the files is wanted
abbrev pub AsksSomeFile : ExplainOrder → Type 0
AsksSomeFile order = (is_some (viewer_word order) ≡ true) ⊎ (is_some (picture_word order) ≡ true)

module _ {S R : Type 0} (outside : Environment S R) (s : S) where
  -- `both` says whether two paths are equal, or one file is at both
  abbrev pub IsOnePlace : List ℕ → List ℕ → Bool → Type 0
  IsOnePlace one other both =
      (a b : PathEntry) × outside.has_entry s one a × outside.has_entry s other b
      × (both ≡ (bytes_eq one other || is_one_file a b))

  -- not both files are wanted, or they are wanted at two places
  abbrev pub AreApart : Option (List ℕ) → Option (List ℕ) → Type 0
  AreApart viewer picture =
      MatchOption viewer (Unit {0}) (λ one. MatchOption picture (Unit {0}) (λ other. IsOnePlace one other false))

  -- both files are wanted at one place: `path` is the picture's path, and the refusal says so
  abbrev pub AreShared : Option (List ℕ) → Option (List ℕ) → List ℕ → SaveRefusal → Type 0
  AreShared viewer picture path refusal =
      (one : List ℕ) × (viewer ≡ Some one) × (picture ≡ Some path) × (refusal ≡ Shared) × IsOnePlace one path true

  module _ (inputs : InputIds) where
    -- a file may be written at this path, if one is wanted there
    abbrev pub IsAllowed : Option (List ℕ) → Type 0
    IsAllowed word = MatchOption word (Unit {0}) (λ path. MayBeSaved (outside.has_entry s) path inputs None)

    -- a file is wanted at `path`, and may not be written there: `refusal` is why
    abbrev pub IsRefusedAt : Option (List ℕ) → List ℕ → SaveRefusal → Type 0
    IsRefusedAt word path refusal =
        (word ≡ Some path) × MayBeSaved (outside.has_entry s) path inputs (Some refusal)

    -- `bytes` are put at this path, if a file is wanted there
    abbrev pub SavesIfAsked : Option (List ℕ) → List ℕ → ℕ → Writing × Writing → ℕ → Type 0
    SavesIfAsked word bytes first err status =
        MatchOption word
        ((err.1 ≡ err.0) × (status ≡ first))
        (λ path. Saves (outside.has_entry s) (outside.replaces s) path inputs bytes first err status)

  module _ (order : ExplainOrder) where
    -- each file that is wanted may be written
    abbrev pub EachIsAllowed : InputIds → Type 0
    EachIsAllowed inputs = IsAllowed inputs (viewer_word order) × IsAllowed inputs (picture_word order)

    -- a file is wanted at `path`, and may not be written there: `refusal` is why
    abbrev pub OneIsRefused : InputIds → List ℕ → SaveRefusal → Type 0
    OneIsRefused inputs path refusal =
        IsRefusedAt inputs (viewer_word order) path refusal ⊎ IsRefusedAt inputs (picture_word order) path refusal

    -- each file that is wanted may be written, and not both at one place
    abbrev pub AreAllowed : InputIds → Type 0
    AreAllowed inputs = EachIsAllowed inputs × AreApart (viewer_word order) (picture_word order)

    -- a file that is wanted at `path` may not be written there, or both files are wanted at one place: `refusal` is why
    abbrev pub IsRefused : InputIds → List ℕ → SaveRefusal → Type 0
    IsRefused inputs path refusal =
        OneIsRefused inputs path refusal ⊎ AreShared (viewer_word order) (picture_word order) path refusal

    -- the viewer's file is written and then the picture, each if it is wanted
    abbrev pub SavesFiles : InputIds → List ℕ → List ℕ → ℕ → Writing × Writing → ℕ → Type 0
    SavesFiles inputs viewer picture first err status =
        (between : Writing) × (so_far : ℕ)
        × SavesIfAsked inputs (viewer_word order) viewer first (err.0, between) so_far
        × SavesIfAsked inputs (picture_word order) picture so_far (between, err.1) status

    -- the files of an explanation are written, each if it is wanted; there are none without an explanation
    abbrev pub SavesGiven : InputIds → Option ExplainedFiles → ℕ → Writing × Writing → ℕ → Type 0
    SavesGiven inputs given first err status =
        MatchOption given
        ((err.1 ≡ err.0) × (status ≡ first))
        (λ files. IsPicture files.picture × SavesFiles inputs files.viewer files.picture first err status)

    -- the recording is explained, and then the files of the explanation are written, if there is one
    abbrev pub ExplainsThenSaves : InputIds → Reading × Reading → Reading × Reading
        → Writing × Writing → Writing × Writing → ℕ → Type 0
    ExplainsThenSaves inputs binding dump out err status =
        (said : Writing) × (first : ℕ) × (given : Option ExplainedFiles)
        × ExplainsWith order.skew binding dump given out (err.0, said) first
        × SavesGiven inputs given first (said, err.1) status

    -- if one of the files may not be written, a line says at which path, and why, and nothing else is written; else the
    -- recording is explained, and the files are written
    abbrev pub ExplainsUnlessRefused : InputIds → Reading × Reading → Reading × Reading
        → Writing × Writing → Writing × Writing → ℕ → Type 0
    ExplainsUnlessRefused inputs binding dump out err status =
        ((path : List ℕ) × (refusal : SaveRefusal) × IsRefused inputs path refusal × Writes out.0 out.1 []
        × RefusesPlace path refusal err status)
        ⊎ (AreAllowed inputs × ExplainsThenSaves inputs binding dump out err status)

    -- it can't be determined which file an input is: the message is that it can't be opened
    abbrev pub RefusesUnknownFile : Input → Reading → Writing × Writing → Writing × Writing → ℕ → Type 0
    RefusesUnknownFile input told out err status =
        outside.reads_file s told None × WritesAnswer (refusal_answer (CannotOpen input)) out err status

    -- it is determined which file each input is, the binding first
    abbrev pub ExplainsAndSaves : Reading × Reading → Reading × Reading
        → Writing × Writing → Writing × Writing → ℕ → Type 0
    ExplainsAndSaves binding dump out err status =
        RefusesUnknownFile Binding binding.0 out err status
        ⊎ ((b : FileId) × outside.reads_file s binding.0 (Some b)
        × (RefusesUnknownFile Dump dump.0 out err status
        ⊎ ((d : FileId) × outside.reads_file s dump.0 (Some d)
        × ExplainsUnlessRefused (record { binding = b; dump = d }) binding dump out err status)))

    -- the inputs are open: the recording is explained, and files are written if the order names them
    abbrev pub ExplainsOpened : Reading × Reading → Reading × Reading
        → Writing × Writing → Writing × Writing → ℕ → Type 0
    ExplainsOpened binding dump out err status =
        (AsksNoFile order × Explains order.skew binding dump out err status)
        ⊎ (AsksSomeFile order × ExplainsAndSaves binding dump out err status)

    -- the binding is opened, and then the dump
    abbrev pub ExplainsFiles : Writing × Writing → Writing × Writing → ℕ → Type 0
    ExplainsFiles = WithRecording (outside.opens s) order.recording ExplainsOpened
