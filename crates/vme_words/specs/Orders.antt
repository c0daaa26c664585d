-- The command that the parsed arguments stand for: an order, read from clap's matches, the `rows`.
use Rattle.std.specs.Prelude.{◌≡◌, ◌⊎◌, ℕ, pos, Bool, true, false, List, [], map, codes, Option, None, Some, is_some}
use Rattle.std.specs.Prelude.{option_map, string_bytes, unwrap_or}
use Rattle.std.specs.Option.{option_map_or}
use Rattle.std.specs.Str.{bytes_eq}
use Rattle.std.specs.Str.Parse.{digits_value, without_leading_plus}
use Rattle.clap.specs.Values.{IsUnsignedIn}
use Rattle.clap.specs.Words.{IsSignedIn, Row, Text, all_of, first_of, one_of, without_minus}
use Rattle.vme_words.specs.Commands.{greatest_file_number, greatest_number}
use Rattle.vme_words.specs.declared.limits.TheConstants.{MOST_SLOTS, MOST_STEPS, MOST_WORKERS}
use Rattle.vme_words.specs.declared.order.AnnotateOrder.{AnnotateOrder}
use Rattle.vme_words.specs.declared.order.AuditOrder.{AuditOrder}
use Rattle.vme_words.specs.declared.order.BindOrder.{BindOrder}
use Rattle.vme_words.specs.declared.order.CheckOrder.{CheckOrder}
use Rattle.vme_words.specs.declared.order.ConfirmOrder.{ConfirmOrder}
use Rattle.vme_words.specs.declared.order.ExplainOrder.{ExplainOrder}
use Rattle.vme_words.specs.declared.order.FaultsOrder.{FaultsOrder}
use Rattle.vme_words.specs.declared.order.JoinOrder.{JoinOrder}
use Rattle.vme_words.specs.declared.order.JudgeOptions.{JudgeOptions}
use Rattle.vme_words.specs.declared.order.ListOrder.{ListOrder}
use Rattle.vme_words.specs.declared.order.Order.{Order}
use Rattle.vme_words.specs.declared.order.Order.TheVariants as to
use Rattle.vme_words.specs.declared.order.PartOrder.{PartOrder}
use Rattle.vme_words.specs.declared.order.RecordingFiles.{RecordingFiles}
use Rattle.vme_words.specs.declared.order.RulesOrder.{RulesOrder}
use Rattle.vme_words.specs.declared.order.Task.{Task}
use Rattle.vme_words.specs.declared.order.Task.TheVariants as tasks
use Rattle.vme_words.specs.declared.order.TellOrder.{TellOrder}
use Rattle.vme_words.specs.declared.order.VariablesOrder.{VariablesOrder}

-- ---- the values in the matches

-- the number that a text stands for, which may begin with a plus sign
abbrev pub number_of : Text → ℕ
number_of text = digits_value 10 (without_leading_plus text)

-- the number of an option, if it is given
abbrev pub number_in : Text → List Row → Option ℕ
number_in name rows = option_map number_of (one_of name rows)

-- all values of an option or of a file argument, in the order of their occurrences
abbrev pub texts_in : Text → List Row → List Text
texts_in name rows = unwrap_or (all_of name rows) []

-- the flag is given
abbrev pub has_flag : Text → List Row → Bool
has_flag name rows = option_map_or (λ text. bytes_eq text (codes "true")) (first_of name rows) false

-- ---- the tasks, i.e. the subcommands

-- the name of a task in the command line
abbrev pub task_name : Task → Text
task_name tasks.Check = codes "check"
task_name tasks.List = codes "list"
task_name tasks.Confirm = codes "confirm"
task_name tasks.Rules = codes "rules"
task_name tasks.Faults = codes "faults"
task_name tasks.Variables = codes "variables"
task_name tasks.Bind = codes "bind"
task_name tasks.Explain = codes "explain"
task_name tasks.Audit = codes "audit"
task_name tasks.Annotate = codes "annotate"
task_name tasks.Part = codes "part"
task_name tasks.Join = codes "join"
task_name tasks.Tell = codes "tell"

-- the task of an order
abbrev pub task_of : Order → Task
task_of (to.Check order) = tasks.Check
task_of (to.List order) = tasks.List
task_of (to.Confirm order) = tasks.Confirm
task_of (to.Rules order) = tasks.Rules
task_of (to.Faults order) = tasks.Faults
task_of (to.Variables order) = tasks.Variables
task_of (to.Bind order) = tasks.Bind
task_of (to.Explain order) = tasks.Explain
task_of (to.Audit order) = tasks.Audit
task_of (to.Annotate order) = tasks.Annotate
task_of (to.Part order) = tasks.Part
task_of (to.Join order) = tasks.Join
task_of (to.Tell order) = tasks.Tell

-- ---- an order agrees with the matches of its subcommand: they have its values (src/order.rt says what each field is)

-- the names of the binding and the dump
pub record SaysFiles (files : RecordingFiles) (rows : List Row) : Type 0 where
  pub binding : Some (string_bytes files.binding) ≡ first_of (codes "BINDING") rows
  pub dump : Some (string_bytes files.dump) ≡ first_of (codes "DUMP") rows

-- the options of `check` and `list`
pub record SaysOptions (options : JudgeOptions) (rows : List Row) : Type 0 where
  pub block : number_in (codes "block") rows ≡ Some options.block
  pub workers : number_in (codes "workers") rows ≡ Some options.workers
  pub skew : number_in (codes "skew") rows ≡ Some options.skew

-- the order of `check`
pub record SaysCheck (order : CheckOrder) (rows : List Row) : Type 0 where
  pub options : SaysOptions order.options rows
  pub recording : SaysFiles order.recording rows

-- the order of `list`
pub record SaysList (order : ListOrder) (rows : List Row) : Type 0 where
  pub options : SaysOptions order.options rows
  pub times : order.has_times ≡ has_flag (codes "times") rows
  pub recording : SaysFiles order.recording rows

-- the order of `confirm`
pub record SaysConfirm (order : ConfirmOrder) (rows : List Row) : Type 0 where
  pub skew : number_in (codes "skew") rows ≡ Some order.skew
  pub recording : SaysFiles order.recording rows
  pub listing : Some (string_bytes order.listing) ≡ first_of (codes "LISTING") rows

-- the order of `audit`
pub record SaysAudit (order : AuditOrder) (rows : List Row) : Type 0 where
  pub transfers : number_in (codes "transfers") rows ≡ Some order.transfers
  pub allowed : map string_bytes order.allowed.items ≡ texts_in (codes "allow") rows
  pub stop : order.stop ≡ number_in (codes "stop") rows
  pub skew : number_in (codes "skew") rows ≡ Some order.skew
  pub workers : number_in (codes "workers") rows ≡ Some order.workers
  pub quiet : order.is_quiet ≡ has_flag (codes "quiet") rows
  pub junit : option_map string_bytes order.junit ≡ first_of (codes "junit") rows
  pub binding : Some (string_bytes order.binding) ≡ first_of (codes "BINDING") rows
  pub dumps : map string_bytes order.dumps.items ≡ texts_in (codes "DUMP") rows

-- the order of `rules`
abbrev pub SaysRules : RulesOrder → List Row → Type 0
SaysRules order rows = option_map string_bytes order.rule ≡ first_of (codes "RULE") rows

-- the order of `faults`
abbrev pub SaysFaults : FaultsOrder → List Row → Type 0
SaysFaults order rows = option_map string_bytes order.kind ≡ first_of (codes "KIND") rows

-- the order of `variables`
abbrev pub SaysVariables : VariablesOrder → List Row → Type 0
SaysVariables order rows = Some (string_bytes order.dump) ≡ first_of (codes "DUMP") rows

-- the order of `bind`
pub record SaysBind (order : BindOrder) (rows : List Row) : Type 0 where
  pub slots : order.slots ≡ number_in (codes "slots") rows
  pub scope : option_map string_bytes order.scope ≡ first_of (codes "scope") rows
  pub dump : Some (string_bytes order.dump) ≡ first_of (codes "DUMP") rows

-- the order of `explain`
pub record SaysExplain (order : ExplainOrder) (rows : List Row) : Type 0 where
  pub viewer : option_map string_bytes order.viewer ≡ first_of (codes "gtkw") rows
  pub picture : option_map string_bytes order.picture ≡ first_of (codes "svg") rows
  pub skew : number_in (codes "skew") rows ≡ Some order.skew
  pub recording : SaysFiles order.recording rows

-- the order of `annotate`
pub record SaysAnnotate (order : AnnotateOrder) (rows : List Row) : Type 0 where
  pub skew : number_in (codes "skew") rows ≡ Some order.skew
  pub recording : SaysFiles order.recording rows

-- the order of `part`
pub record SaysPart (order : PartOrder) (rows : List Row) : Type 0 where
  pub number : number_in (codes "number") rows ≡ Some order.number
  pub listing : order.listing ≡ has_flag (codes "listing") rows
  pub recording : SaysFiles order.recording rows

-- the order of `join`
abbrev pub SaysJoin : JoinOrder → List Row → Type 0
SaysJoin order rows = map string_bytes order.parts.items ≡ texts_in (codes "PART") rows

-- the order of `tell`
pub record SaysTell (order : TellOrder) (rows : List Row) : Type 0 where
  pub listing : order.listing ≡ has_flag (codes "list") rows
  pub file_count : order.file_count ≡ number_in (codes "files") rows
  pub parts : map string_bytes order.parts.items ≡ texts_in (codes "PART") rows

-- an order of any task
abbrev pub Says : Order → List Row → Type 0
Says (to.Check order) rows = SaysCheck order rows
Says (to.List order) rows = SaysList order rows
Says (to.Confirm order) rows = SaysConfirm order rows
Says (to.Rules order) rows = SaysRules order rows
Says (to.Faults order) rows = SaysFaults order rows
Says (to.Variables order) rows = SaysVariables order rows
Says (to.Bind order) rows = SaysBind order rows
Says (to.Explain order) rows = SaysExplain order rows
Says (to.Audit order) rows = SaysAudit order rows
Says (to.Annotate order) rows = SaysAnnotate order rows
Says (to.Part order) rows = SaysPart order rows
Says (to.Join order) rows = SaysJoin order rows
Says (to.Tell order) rows = SaysTell order rows

-- `met` is the subcommand of this order, with matches that have its values
pub record IsOrder (order : Order) (met : Option (Text × List Row)) : Type 0 where
  pub rows : List Row
  pub command : met ≡ Some (task_name (task_of order), rows)
  pub says : Says order rows

-- ---- the matches have what an order needs

-- The option's value is a number from `least` to `greatest`. clap's signed parser gives it without a minus sign (of
-- `-0`).
pub record HasSignedIn (name : Text) (least greatest : ℕ) (rows : List Row) : Type 0 where
  pub text : Text
  pub read : one_of name rows ≡ Some (without_minus text)
  pub says : IsSignedIn (pos least) (pos greatest) text

-- the option's value is a number of 64 bits from `least` on
pub record HasUnsignedFrom (name : Text) (least : ℕ) (rows : List Row) : Type 0 where
  pub text : Text
  pub read : one_of name rows ≡ Some text
  pub says : IsUnsignedIn least greatest_number text

-- the option isn't given, or its value is a number from `least` to `greatest`
abbrev pub MayHaveSignedIn : Text → ℕ → ℕ → List Row → Type 0
MayHaveSignedIn name least greatest rows = (first_of name rows ≡ None) ⊎ HasSignedIn name least greatest rows

-- the option isn't given, or its value is a number of 64 bits from `least` on
abbrev pub MayHaveUnsignedFrom : Text → ℕ → List Row → Type 0
MayHaveUnsignedFrom name least rows = (first_of name rows ≡ None) ⊎ HasUnsignedFrom name least rows

-- the number of worker threads is given, 1 to `MOST_WORKERS`
abbrev pub HasWorkers : List Row → Type 0
HasWorkers rows = HasSignedIn (codes "workers") 1 MOST_WORKERS rows

-- the skew is given, a number of 64 bits
abbrev pub HasSkew : List Row → Type 0
HasSkew rows = HasUnsignedFrom (codes "skew") 0 rows

-- the argument is given
abbrev pub HasName : Text → List Row → Type 0
HasName name rows = is_some (first_of name rows) ≡ true

-- the binding and the dump are given
pub record HasNames (rows : List Row) : Type 0 where
  pub binding : HasName (codes "BINDING") rows
  pub dump : HasName (codes "DUMP") rows

-- the options of `check` and `list` are given
pub record HasOptions (rows : List Row) : Type 0 where
  pub block : HasSignedIn (codes "block") 1 MOST_STEPS rows
  pub workers : HasWorkers rows
  pub skew : HasSkew rows

-- those options are given, and the binding and the dump
pub record HasOptionsAndNames (rows : List Row) : Type 0 where
  pub options : HasOptions rows
  pub names : HasNames rows

-- what `confirm` needs is given
pub record HasConfirmation (rows : List Row) : Type 0 where
  pub skew : HasSkew rows
  pub names : HasNames rows
  pub listing : HasName (codes "LISTING") rows

-- a skew is given, and the binding and the dump
pub record HasSkewAndNames (rows : List Row) : Type 0 where
  pub skew : HasSkew rows
  pub names : HasNames rows

-- what `audit` needs is given
pub record HasAudit (rows : List Row) : Type 0 where
  pub transfers : HasUnsignedFrom (codes "transfers") 0 rows
  pub stop : MayHaveUnsignedFrom (codes "stop") 1 rows
  pub skew : HasSkew rows
  pub workers : HasWorkers rows
  pub binding : HasName (codes "BINDING") rows

-- what `bind` needs is given
pub record HasBind (rows : List Row) : Type 0 where
  pub slots : MayHaveSignedIn (codes "slots") 1 MOST_SLOTS rows
  pub dump : HasName (codes "DUMP") rows

-- what `part` needs is given
pub record HasPart (rows : List Row) : Type 0 where
  pub number : HasSignedIn (codes "number") 0 greatest_file_number rows
  pub names : HasNames rows

-- what the task needs is given
abbrev pub HasAll : Task → List Row → Type 0
HasAll tasks.Check rows = HasOptionsAndNames rows
HasAll tasks.List rows = HasOptionsAndNames rows
HasAll tasks.Confirm rows = HasConfirmation rows
HasAll tasks.Rules rows = Unit {0}
HasAll tasks.Faults rows = Unit {0}
HasAll tasks.Variables rows = HasName (codes "DUMP") rows
HasAll tasks.Bind rows = HasBind rows
HasAll tasks.Explain rows = HasSkewAndNames rows
HasAll tasks.Audit rows = HasAudit rows
HasAll tasks.Annotate rows = HasSkewAndNames rows
HasAll tasks.Part rows = HasPart rows
HasAll tasks.Join rows = Unit {0}
HasAll tasks.Tell rows = MayHaveUnsignedFrom (codes "files") 1 rows

-- a task is given, and its matches have all that its order needs
pub record HasOrder (met : Option (Text × List Row)) : Type 0 where
  pub task : Task
  pub rows : List Row
  pub command : met ≡ Some (task_name task, rows)
  pub has : HasAll task rows
