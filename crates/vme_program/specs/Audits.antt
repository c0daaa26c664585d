-- What an audit does with the files that an order names.
use Rattle.std.specs.Prelude.{◌≡◌, ◌≢◌, ◌⊎◌, ◌==◌, ℕ, if◌then◌else◌, List, ◌++◌, All, Contains, codes, map}
use Rattle.std.specs.Prelude.{take, Option, None, Some, IfSome, MatchOption, option_map, slice_get, string_bytes}
use Rattle.std.specs.List.{AllZip}
use Rattle.clap.specs.declared.error.kind.ErrorKind.TheVariants.{InvalidSubcommand}
use Rattle.vme_trace.specs.Streams.{Reading, Writing}
use Rattle.vme_stream.specs.Answers.{refusal_answer}
use Rattle.vme_stream.specs.Ends.{WritesAnswer}
use Rattle.vme_stream.specs.Texts.{line_of, refusal_text}
use Rattle.vme_stream.specs.declared.refusal.Input.TheVariants.{Binding}
use Rattle.vme_stream.specs.declared.refusal.Refusal.TheVariants.{CannotOpen, Memory}
use Rattle.vme_audit.specs.declared.allowance.Allowance.{Allowance}
use Rattle.vme_audit_command.specs.Audits.{RefusesBinding}
use Rattle.vme_audit_command.specs.DumpAnswers.{AuditOptions}
use Rattle.vme_audit_command.specs.SeveralDumps.{AuditsByBinding, NamedReading}
use Rattle.vme_audit_lines.specs.AuditLines.{head_of}
use Rattle.vme_commands.specs.AllowanceTexts.{allowance_text}
use Rattle.vme_explain.specs.declared.saving.FileId.{FileId}
use Rattle.vme_stream.specs.Outputs.{TriesToWrite}
use Rattle.vme_words.specs.OrderFaults.{HasUsageKind, IsOfWords}
use Rattle.vme_words.specs.declared.order.AuditOrder.{AuditOrder}
use Rattle.vme_program.specs.Openings.{WithInput}
use Rattle.vme_program.specs.Saves.{TellsNoMemory}
use Rattle.vme_program.specs.declared.audit.AllowancesError.{AllowancesError}
use Rattle.vme_program.specs.declared.audit.AllowancesError.TheVariants.{Faulty}
use Rattle.vme_program.specs.declared.environment.Environment.{Ghosts as Environment}
use Rattle.vme_program.specs.declared.environment.WriteResult.{WriteResult}
use Rattle.vme_program.specs.declared.environment.WriteResult.TheVariants as written

-- ---- the words

-- a fault of the words isn't want of memory
abbrev pub IsOfWordsIfFaulty : AllowancesError → Type 0
IsOfWordsIfFaulty (Faulty fault) = IsOfWords fault
IsOfWordsIfFaulty other = Unit {0}

-- a fault of the words is of the kind that the program finds itself
abbrev pub IsFoundIfFaulty : AllowancesError → Type 0
IsFoundIfFaulty (Faulty fault) = HasUsageKind InvalidSubcommand fault
IsFoundIfFaulty other = Unit {0}

-- `allowances` are the breaks that the order allows, each by the text of its argument
abbrev pub AreAllowed : AuditOrder → List Allowance → Type 0
AreAllowed order allowances = map allowance_text allowances ≡ map string_bytes order.allowed.items

-- how the dumps of an order are audited
abbrev pub audit_options_of : AuditOrder → List Allowance → AuditOptions
audit_options_of order allowances = record {
  allowances = allowances;
  transfers = order.transfers;
  stop = order.stop;
  skew = order.skew;
  is_quiet = order.is_quiet;
}

-- the names of the dumps
abbrev pub dump_words : AuditOrder → List (List ℕ)
dump_words order = map string_bytes order.dumps.items

-- the name of standard input, as a dump
abbrev pub input_name : List ℕ
input_name = codes "-"

-- the path of standard input, as a file
abbrev pub input_path : List ℕ
input_path = codes "/dev/stdin"

-- ---- the message about a file

-- the line that says what is wrong with the file of this name
abbrev pub file_line : List ℕ → List ℕ → List ℕ
file_line name why = codes "vmecheck: " ++ head_of name ++ why ++ codes "\n"

-- writing that line is tried, and the status is `first`; or memory ran out
abbrev pub RefusesFile : List ℕ → List ℕ → ℕ → Writing × Writing → ℕ → Type 0
RefusesFile name why first err status =
    (TriesToWrite err.0 err.1 (file_line name why) × (status ≡ first)) ⊎ TellsNoMemory err status

-- nothing is written to standard output, and want of memory is reported
abbrev pub EndsForMemory : Writing × Writing → Writing × Writing → ℕ → Type 0
EndsForMemory out err status = (out.1 ≡ out.0) × TellsNoMemory err status

-- the status by how the writing of test cases ended: `first` if all were written
abbrev pub EndsCases : List ℕ → WriteResult → ℕ → Writing × Writing → ℕ → Type 0
EndsCases path written.Whole first err status = (err.1 ≡ err.0) × (status ≡ first)
EndsCases path other first err status = RefusesFile path (codes "cannot write") 5 err status

module _ {S R : Type 0} (outside : Environment S R) (s : S) where
  -- ---- the dumps

  -- a dump by its name: standard input, or a file that was opened
  abbrev pub IsDumpOf : List ℕ → NamedReading → Type 0
  IsDumpOf name named =
      (named.name ≡ name)
      × (((name ≡ input_name) × outside.gives_input s named.dump)
      ⊎ ((name ≢ input_name) × outside.opens s name (Some named.dump)))

  -- `name` is the first of these names that can't be opened
  abbrev pub IsFirstUnopened : List (List ℕ) → List ℕ → Type 0
  IsFirstUnopened names name =
      (n : ℕ) × (before : List NamedReading)
      × (slice_get names n ≡ Some name) × AllZip IsDumpOf (take n names) before
      × (name ≢ input_name) × outside.opens s name None

  -- which file a dump is, if that can be determined
  abbrev pub IsFileOf : NamedReading → Option FileId → Type 0
  IsFileOf named id =
      ((named.name ≡ input_name) × outside.is_at_path s input_path id)
      ⊎ ((named.name ≢ input_name) × outside.reads_file s named.dump id)

  -- ---- the file of test cases

  -- a dump is another file than `id`
  abbrev pub IsOther : FileId → NamedReading → Type 0
  IsOther id named = (other : Option FileId) × IsFileOf named other × (other ≢ Some id)

  -- `path` leads to the binding, which is the file `binding`, or to a dump
  abbrev pub LeadsToInput : List ℕ → FileId → List NamedReading → Type 0
  LeadsToInput path binding dumps =
      (id : FileId) × outside.is_at_path s path (Some id)
      × ((id ≡ binding) ⊎ ((named : NamedReading) × Contains dumps named × IsFileOf named (Some id)))

  -- `path` leads neither to the binding, which is the file `binding`, nor to a dump
  abbrev pub LeadsToNoInput : List ℕ → FileId → List NamedReading → Type 0
  LeadsToNoInput path binding dumps =
      (led : Option FileId) × outside.is_at_path s path led
      × IfSome led (λ id. (id ≢ binding) × All (IsOther id) dumps)

  -- after an audit with the status `first` test cases are written into the file at `path`, or aren't for want of memory
  abbrev pub SavesCases : List ℕ → ℕ → Writing × Writing → ℕ → Type 0
  SavesCases path first err status =
      ((text : List ℕ) × (ended : WriteResult)
      × outside.writes s path text ended × EndsCases path ended first err status)
      ⊎ (TriesToWrite err.0 err.1 (line_of (refusal_text Memory)) × (status ≡ (if first == 5 then 5 else 4)))

  -- ---- the audit

  module _ (order : AuditOrder) (allowances : List Allowance) where
    -- the binding is refused, or the dumps are audited by it, and `afters` are their readers afterwards
    abbrev pub AuditsBy : Reading × Reading → List NamedReading → List Reading
        → Writing × Writing → Writing × Writing → ℕ → Type 0
    AuditsBy binding dumps afters out err status =
        RefusesBinding binding out err status
        ⊎ AuditsByBinding (audit_options_of order allowances) binding dumps afters out err status

    -- the binding is refused, or the dumps are audited by it and then test cases are written at `path`
    abbrev pub AuditsThenSaves : List ℕ → Reading × Reading → List NamedReading → List Reading
        → Writing × Writing → Writing × Writing → ℕ → Type 0
    AuditsThenSaves path binding dumps afters out err status =
        RefusesBinding binding out err status
        ⊎ ((said : Writing) × (first : ℕ)
        × AuditsByBinding (audit_options_of order allowances) binding dumps afters out (err.0, said) first
        × SavesCases path first (said, err.1) status)

    -- the dumps are audited and test cases are written; but nothing is read if `path` leads to an input, or if it can't
    -- be determined which file the binding is
    abbrev pub AuditsAndSaves : List ℕ → Reading × Reading → List NamedReading → List Reading
        → Writing × Writing → Writing × Writing → ℕ → Type 0
    AuditsAndSaves path binding dumps afters out err status =
        (outside.reads_file s binding.0 None × WritesAnswer (refusal_answer (CannotOpen Binding)) out err status)
        ⊎ ((id : FileId) × outside.reads_file s binding.0 (Some id)
        × ((LeadsToInput path id dumps × (out.1 ≡ out.0) × RefusesFile path (codes "is an input") 3 err status)
        ⊎ (LeadsToNoInput path id dumps × AuditsThenSaves path binding dumps afters out err status)))

    -- the inputs are open: they are audited, and test cases are written if the order names a file for them
    abbrev pub AuditsOpened : Reading × Reading → List NamedReading → List Reading
        → Writing × Writing → Writing × Writing → ℕ → Type 0
    AuditsOpened binding dumps afters out err status =
        MatchOption (option_map string_bytes order.junit)
        (AuditsBy binding dumps afters out err status)
        (λ path. AuditsAndSaves path binding dumps afters out err status)

    -- the binding is open: each dump is opened; the first that can't be opened is reported, and nothing is read
    abbrev pub AuditsNamed : Reading × Reading → Writing × Writing → Writing × Writing → ℕ → Type 0
    AuditsNamed binding out err status =
        EndsForMemory out err status
        ⊎ (((name : List ℕ) × IsFirstUnopened (dump_words order) name
        × (out.1 ≡ out.0) × RefusesFile name (codes "cannot open") 3 err status)
        ⊎ ((dumps : List NamedReading) × (afters : List Reading) × AllZip IsDumpOf (dump_words order) dumps
        × AuditsOpened binding dumps afters out err status))

  -- the binding is opened, and then the dumps; or memory ran out
  abbrev pub AuditsFiles : AuditOrder → Writing × Writing → Writing × Writing → ℕ → Type 0
  AuditsFiles order out err status =
      EndsForMemory out err status
      ⊎ ((allowances : List Allowance) × AreAllowed order allowances
      × WithInput (outside.opens s) (string_bytes order.binding) Binding (AuditsNamed order allowances) out err status)
