-- Texts that a command writes.
use Rattle.std.specs.Prelude.{◌≡◌, ◌++◌, ℕ, Bool, true, false, [], List, Option, Some, None, IfSome, Result, Ok, Err}
use Rattle.std.specs.Prelude.{IfErr, codes, if◌then◌else◌}
use Rattle.vcd_read.specs.Contents.{Contents}
use Rattle.vme_bind.specs.Binding.{BoundLines, binding_of}
use Rattle.vme_declarations.specs.Scopes.{has_scope}
use Rattle.vme_find.specs.declared.writing.FoundBinding.{FoundBinding}
use Rattle.vme_trace.specs.Streams.{Reading, Writing}
use Rattle.vme_trace.specs.Trace.{Trace}
use Rattle.vme_trace.specs.declared.rule.Rule.{Rule}
use Rattle.vme_stream.specs.Answers.{CommandAnswer, capture_by, dump_read, refusal_answer}
use Rattle.vme_stream.specs.Ends.{Ends}
use Rattle.vme_stream.specs.Texts.{line_of, refusal_status, refusal_text}
use Rattle.vme_stream.specs.declared.refusal.Refusal.{Refusal}
use Rattle.vme_stream.specs.declared.refusal.Refusal.TheVariants.{Memory}
use Rattle.vme_text_commands.specs.declared.bind.NoBinding.{NoBinding}
use Rattle.vme_text_commands.specs.declared.bind.NoBinding.TheVariants.{Refused, NoSuchScope}
use Rattle.vme_text_commands.specs.Refused.{HasRefusalPage, IsRefusalPage, refusal_with}
use Rattle.vme_stream.specs.Inputs.{IsReading}
use Rattle.vme_faults.specs.Pages.{pages_of}
use Rattle.vme_faults.specs.declared.refusal_kind.RefusalKind.{RefusalKind}
use Rattle.vme_rules.specs.Guides.{guides_text}
use denote.Ref.{Bor}

-- a text on standard output, and the status
abbrev pub text_answer : ℕ → List ℕ → CommandAnswer
text_answer status text = record { out = text; error = []; status = status }

-- a text is written with the status `status`, or why there is none
abbrev pub text_answer_by : ℕ → Result (List ℕ) Refusal → CommandAnswer
text_answer_by status (Ok text) = text_answer status text
text_answer_by status (Err refusal) = refusal_answer refusal

-- a text is written with the status 0, or why there is none, with `more` after the line of the refusal
abbrev pub text_answer_with : List ℕ → Result (List ℕ) Refusal → CommandAnswer
text_answer_with more (Ok text) = text_answer 0 text
text_answer_with more (Err refusal) = refusal_with more refusal

-- the text is the guide of a rule, or those of all rules, unless memory ran out
abbrev pub AreGuides : Option Rule → Result (List ℕ) Refusal → Type 0
AreGuides only (Ok text) = text ≡ guides_text only
AreGuides only (Err refusal) = refusal ≡ Memory

-- the text is the page of a kind, or those of all kinds, unless memory ran out
abbrev pub ArePages : Option RefusalKind → Result (List ℕ) Refusal → Type 0
ArePages only (Ok text) = text ≡ pages_of only
ArePages only (Err refusal) = refusal ≡ Memory

-- there is a text if the dump was read; else the refusal is the dump's, or `Memory`
abbrev pub IsTextOf : Result Contents Refusal → Result (List ℕ) Refusal → Type 0
IsTextOf read (Ok text) = (contents : Contents) × (read ≡ Ok contents)
IsTextOf read (Err Memory) = Unit {0}
IsTextOf read (Err refusal) = read ≡ Err refusal

-- no variable of the dump is in the scope that is asked for
abbrev pub no_scope_text : List ℕ
no_scope_text =
    codes "vmecheck: no variable of the dump stands in that scope: `vmecheck variables` lists their paths"

-- a binding is written, and the line about it, with status 7 if the binding has no bus to judge
abbrev pub found_answer : FoundBinding → CommandAnswer
found_answer found = record { out = found.text; error = found.report; status = if found.is_bus then 0 else 7 }

-- why there is no binding, with `more` after the line of a refusal
abbrev pub missing_text : List ℕ → NoBinding → List ℕ
missing_text more (Refused refusal) = line_of (refusal_text refusal) ++ more
missing_text more NoSuchScope = line_of no_scope_text

-- the exit status where there is no binding
abbrev pub missing_status : NoBinding → ℕ
missing_status (Refused refusal) = refusal_status refusal
missing_status NoSuchScope = 3

-- a binding is written, or why there is none
abbrev pub binding_answer : List ℕ → Result FoundBinding NoBinding → CommandAnswer
binding_answer more (Ok found) = found_answer found
binding_answer more (Err missing) =
    record { out = []; error = missing_text more missing; status = missing_status missing }

-- `more`, which is written after the line of a refusal
abbrev pub IsPageOfMissing : NoBinding → List ℕ → Type 0
IsPageOfMissing (Refused refusal) more = IsRefusalPage refusal more
IsPageOfMissing NoSuchScope more = Unit {0}

-- if there is no binding, `more` is what follows the line that says why
abbrev pub HasPageOfMissing : Result FoundBinding NoBinding → List ℕ → Type 0
HasPageOfMissing made more = IfErr made (λ missing. IsPageOfMissing missing more)

-- the dump was read, and `there` says whether it has a variable in the scope `path` or in one within it
abbrev pub ScopeIs : Bool → Result Contents Refusal → List ℕ → Type 0
ScopeIs there read path = (contents : Contents) × (read ≡ Ok contents)
    × (has_scope path contents.variables ≡ there)

-- The text is a binding by the format, so it binds each line of the backplane once. It is of `slots` slots, if they are
-- given. It makes a recording of the dump that was read, and the dump has the scope that is asked for.
pub record BindsDump (read : Result Contents Refusal) (slots : Option ℕ) (scope : Option (Bor (List ℕ)))
    (text : List ℕ) : Type 0 where
  pub bound : BoundLines
  pub recording : Trace
  pub is_binding : binding_of text ≡ Ok bound
  pub records : capture_by bound read ≡ Ok recording
  pub slots_are : IfSome slots (λ n. bound.slots ≡ n)
  pub scope_is : IfSome scope (λ path. ScopeIs true read path.now)

-- There is such a binding; or the refusal is the dump's, or `Memory`; or the dump lacks the scope.
abbrev pub IsBindingFor : Result Contents Refusal → Option ℕ → Option (Bor (List ℕ)) → Result FoundBinding NoBinding
    → Type 0
IsBindingFor read slots scope (Ok found) = BindsDump read slots scope found.text
IsBindingFor read slots scope (Err (Refused Memory)) = Unit {0}
IsBindingFor read slots scope (Err (Refused refusal)) = read ≡ Err refusal
IsBindingFor read slots None (Err NoSuchScope) = ⊥
IsBindingFor read slots (Some path) (Err NoSuchScope) = ScopeIs false read path.now

-- The dump is read, or can't be. There is a binding for it, or there is none: that is written, unless a write fails.
abbrev pub TellsBinding : Option ℕ → Option (Bor (List ℕ)) → Reading × Reading → Writing × Writing
    → Writing × Writing → ℕ → Type 0
TellsBinding slots scope dump out err status =
    (bytes : Option (List ℕ)) × (made : Result FoundBinding NoBinding) × (more : List ℕ)
    × IsReading dump.0 dump.1 bytes
    × IsBindingFor (dump_read bytes) slots scope made
    × HasPageOfMissing made more
    × Ends (binding_answer more made) out err status

-- the variables of a dump are written, or why it can't be read
abbrev pub TellsVariables : Reading × Reading → Writing × Writing → Writing × Writing → ℕ → Type 0
TellsVariables dump out err status =
    (bytes : Option (List ℕ)) × (made : Result (List ℕ) Refusal) × (more : List ℕ)
    × IsReading dump.0 dump.1 bytes
    × IsTextOf (dump_read bytes) made
    × HasRefusalPage made more
    × Ends (text_answer_with more made) out err status
