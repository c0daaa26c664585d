-- The command line of the program: its subcommands and their options, as they are declared to the parser, clap.
use Rattle.std.specs.Prelude.{◌≡◌, ℕ, pos, true, false, List, ◌∷◌, [], Some, codes, Result, IfOk}
use Rattle.clap.specs.Lexer.{usize_max}
use Rattle.clap.specs.Words.{App, Rule, Text, app_of, new_app, new_rule, with_rule, with_subcommand}
use Rattle.clap.specs.declared.builder.action.ArgAction.TheVariants.{Append, SetTrue}
use Rattle.clap.specs.declared.builder.command.Command.{Command}
use Rattle.clap.specs.declared.builder.command.Command.TheViews.{out-Command}
use Rattle.clap.specs.declared.builder.value_parser.ValueParser.TheVariants.{Signed, Unsigned}
use Rattle.vme_words.specs.declared.limits.TheConstants.{MOST_SLOTS, MOST_STEPS, MOST_WORKERS}

-- `--NAME N`, N a number from `least` to `greatest`, with the default values `defaults`
abbrev pub number_rule : Text → ℕ → ℕ → List Text → Rule
number_rule name least greatest defaults = record (new_rule name) {
  long = Some name;
  parser = Some (Signed (pos least) (pos greatest));
  defaults = defaults;
}

-- `--block N`, 16,384 by default
abbrev pub block_rule : Rule
block_rule = number_rule (codes "block") 1 MOST_STEPS (codes "16384" ∷ [])

-- `--workers N`, 4 by default
abbrev pub workers_rule : Rule
workers_rule = number_rule (codes "workers") 1 MOST_WORKERS (codes "4" ∷ [])

-- `--slots N`, optional
abbrev pub slots_rule : Rule
slots_rule = number_rule (codes "slots") 1 MOST_SLOTS []

-- the greatest number of a file, of 32 bits
abbrev pub greatest_file_number : ℕ
greatest_file_number = 4294967295

-- `--number N`, N any number of 32 bits, 0 by default
abbrev pub file_number_rule : Rule
file_number_rule = number_rule (codes "number") 0 greatest_file_number (codes "0" ∷ [])

-- a file argument that has to be given
abbrev pub file_rule : Text → Rule
file_rule name = record (new_rule name) { required = true }

-- a file argument that has to be given and takes any number of files from one on
abbrev pub files_rule : Text → Rule
files_rule name = record (file_rule name) {
  range = Some (record { start_inclusive = 1; end_inclusive = usize_max });
}

-- the greatest number of 64 bits
abbrev pub greatest_number : ℕ
greatest_number = 18446744073709551615

-- `--NAME N`, N a number of 64 bits from `least` on, with the default values `defaults`
abbrev pub unsigned_rule : Text → ℕ → List Text → Rule
unsigned_rule name least defaults = record (new_rule name) {
  long = Some name;
  parser = Some (Unsigned least greatest_number);
  defaults = defaults;
}

-- `--skew T`, T a number of 64 bits, 0 by default
abbrev pub skew_rule : Rule
skew_rule = unsigned_rule (codes "skew") 0 (codes "0" ∷ [])

-- `--transfers N`, N a number of 64 bits, 1 by default
abbrev pub transfers_rule : Rule
transfers_rule = unsigned_rule (codes "transfers") 0 (codes "1" ∷ [])

-- `--stop N`, N a number of 64 bits from 1 on, optional
abbrev pub stop_rule : Rule
stop_rule = unsigned_rule (codes "stop") 1 []

-- `--NAME`, optional
abbrev pub flag_rule : Text → Rule
flag_rule name = record (new_rule name) { long = Some name; action = Some SetTrue }

-- `NAME [--block N] [--workers N] [--skew T] BINDING DUMP`
abbrev pub recording_app : Text → App
recording_app name =
    with_rule
    (with_rule
    (with_rule
    (with_rule
    (with_rule (new_app name) block_rule)
    workers_rule)
    skew_rule)
    (file_rule (codes "BINDING")))
    (file_rule (codes "DUMP"))

-- `list [--times] [--block N] [--workers N] [--skew T] BINDING DUMP`
abbrev pub list_app : App
list_app = with_rule (recording_app (codes "list")) (flag_rule (codes "times"))

-- `confirm [--skew T] BINDING DUMP LISTING`
abbrev pub confirm_app : App
confirm_app =
    with_rule (with_rule (with_rule (with_rule (new_app (codes "confirm")) skew_rule) (file_rule (codes "BINDING")))
    (file_rule (codes "DUMP"))) (file_rule (codes "LISTING"))

-- `--NAME WORD`, optional
abbrev pub word_rule : Text → Rule
word_rule name = record (new_rule name) { long = Some name }

-- `--allow WORD`, which may be given several times
abbrev pub allow_rule : Rule
allow_rule = record (word_rule (codes "allow")) { action = Some Append }

-- `audit [--transfers N] [--allow WORD].. [--stop N] [--skew T] [--workers N] [--quiet] [--junit FILE] BINDING DUMP..`
abbrev pub audit_app : App
audit_app =
    with_rule
    (with_rule
    (with_rule
    (with_rule
    (with_rule
    (with_rule
    (with_rule
    (with_rule (with_rule (new_app (codes "audit")) transfers_rule) allow_rule)
    stop_rule)
    skew_rule)
    workers_rule)
    (flag_rule (codes "quiet")))
    (word_rule (codes "junit")))
    (file_rule (codes "BINDING")))
    (files_rule (codes "DUMP"))

-- `rules [RULE]`
abbrev pub rules_app : App
rules_app = with_rule (new_app (codes "rules")) (new_rule (codes "RULE"))

-- `faults [KIND]`
abbrev pub faults_app : App
faults_app = with_rule (new_app (codes "faults")) (new_rule (codes "KIND"))

-- `variables DUMP`
abbrev pub variables_app : App
variables_app = with_rule (new_app (codes "variables")) (file_rule (codes "DUMP"))

-- `bind [--slots N] [--scope PATH] DUMP`
abbrev pub bind_app : App
bind_app =
    with_rule (with_rule (with_rule (new_app (codes "bind")) slots_rule) (word_rule (codes "scope")))
    (file_rule (codes "DUMP"))

-- `explain [--gtkw FILE] [--svg FILE] [--skew T] BINDING DUMP`
abbrev pub explain_app : App
explain_app =
    with_rule
    (with_rule
    (with_rule
    (with_rule (with_rule (new_app (codes "explain")) (word_rule (codes "gtkw"))) (word_rule (codes "svg")))
    skew_rule)
    (file_rule (codes "BINDING")))
    (file_rule (codes "DUMP"))

-- `annotate [--skew T] BINDING DUMP`
abbrev pub annotate_app : App
annotate_app =
    with_rule (with_rule (with_rule (new_app (codes "annotate")) skew_rule) (file_rule (codes "BINDING")))
    (file_rule (codes "DUMP"))

-- `--files N`, N a number of 64 bits from 1 on, optional
abbrev pub file_count_rule : Rule
file_count_rule = unsigned_rule (codes "files") 1 []

-- `part [--number N] [--listing] BINDING DUMP`
abbrev pub part_app : App
part_app =
    with_rule (with_rule (with_rule (with_rule (new_app (codes "part")) file_number_rule) (flag_rule (codes "listing")))
    (file_rule (codes "BINDING"))) (file_rule (codes "DUMP"))

-- `join PART..`
abbrev pub join_app : App
join_app = with_rule (new_app (codes "join")) (files_rule (codes "PART"))

-- `tell [--list] [--files N] PART..`
abbrev pub tell_app : App
tell_app =
    with_rule (with_rule (with_rule (new_app (codes "tell")) (flag_rule (codes "list"))) file_count_rule)
    (files_rule (codes "PART"))

-- the program, with its subcommands from `check` to `audit`
abbrev pub app_through_audit : App
app_through_audit =
    let check = recording_app (codes "check") in
    let two = with_subcommand (with_subcommand (new_app (codes "vmecheck")) check.top) list_app.top in
    with_subcommand (with_subcommand two confirm_app.top) audit_app.top

-- the program, with its subcommands from `check` to `variables`
abbrev pub app_through_variables : App
app_through_variables =
    with_subcommand (with_subcommand (with_subcommand app_through_audit rules_app.top) faults_app.top) variables_app.top

-- the program, with a subcommand for each task, one of which has to be given, and a version
abbrev pub vmecheck_app : App
vmecheck_app =
    let a = with_subcommand (with_subcommand app_through_variables bind_app.top) explain_app.top in
    let a = with_subcommand (with_subcommand a annotate_app.top) part_app.top in
    let a = with_subcommand (with_subcommand a join_app.top) tell_app.top in
    record a { top = record a.top { subcommand_required = true; has_version = true } }

-- the command that is made, unless memory ran out, is `app`, and has no option that also holds for its subcommands
abbrev pub Makes : {E : Type 0} → App → Result Command E → Type 0
Makes app made = IfOk made (λ command. (app_of command ≡ app) × ((out-Command command).has_globals ≡ false))
